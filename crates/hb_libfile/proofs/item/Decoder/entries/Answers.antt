use Rattle.std.proofs.Common.{rules, subst, ◌≡◌, ◌++◌, Bool, drop}
use Rattle.hb_env.specs.declared.entry.Entry.{Entry}
use Rattle.hb_env.specs.declared.entry.Places.{Places}
use Rattle.hb_libfile.proofs.ReadLemmas.{read_more_as, length_more}
use Rattle.hb_libfile.specs.Format.{entry_bytes}
use Rattle.hb_libfile.proofs.item.Decoder.entries.Goals as goal

pub loop-i-preserved : goal.loop-i-preserved
loop-i-preserved c =
    let here = c.in_ok-entry.ensures.read in
    let as_begun = subst (λ (b : Bool). drop c.loop-i.self.reader.place c.loop-i.self.reader.bytes.now ≡ entry_bytes b c.in_ok-entry.entry.0 ++ drop c.entry.new.self.reader.place c.entry.new.self.reader.bytes.now) c.loop-i.invariant.1 here in
    (search rules, search rules, length_more _ _ _ _ c.in_ok-push.ensures.items c.loop-i.invariant.2, read_more_as (entry_bytes c.args.self.now.binders) (λ (p : Entry × Places). p.0) c.loop-i.entries.items c.push.new.self.items c.in_ok-entry.entry _ _ _ c.in_ok-push.ensures.items c.loop-i.invariant.3 as_begun)
