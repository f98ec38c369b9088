use Rattle.std.proofs.Common.{rules, subst, List, ℕ, ◌≡◌, ◌++◌, Bool}
use Rattle.hb_libfile.proofs.ReadLemmas.{read_more_as, length_more}
use Rattle.hb_libfile.specs.Format.{decl_bytes}
use Rattle.hb_env.specs.Plain.{plain}
use Rattle.hb_libfile.proofs.item.Decoder.declarations.Goals as goal

pub loop-i-preserved : goal.loop-i-preserved
loop-i-preserved c =
    (search rules, search rules, length_more _ _ _ _ c.in_ok-push-2.ensures.items c.loop-i.invariant.2, read_more_as decl_bytes plain c.loop-i.decls.items c.push-in-loop-i.new.self.items c.in_ok-decl.decl _ _ _ c.in_ok-push-2.ensures.items c.loop-i.invariant.3 c.in_ok-decl.ensures.read)
