use Rattle.std.proofs.Common.{rules, subst, List, ℕ, ◌≡◌, ◌++◌, Bool}
use Rattle.hb_libfile.proofs.ReadLemmas.{read_more, length_more}
use Rattle.hb_libfile.specs.Format.{name_bytes}
use Rattle.hb_libfile.proofs.item.Decoder.items.Goals as goal

pub loop-i-preserved : goal.loop-i-preserved
loop-i-preserved c =
    (search rules, search rules, length_more _ _ _ _ c.in_ok-push.ensures.items c.loop-i.invariant.2, read_more name_bytes c.loop-i.items.items c.push.new.self.items c.in_ok-item.item _ _ _ c.in_ok-push.ensures.items c.loop-i.invariant.3 c.in_ok-item.ensures.read)
