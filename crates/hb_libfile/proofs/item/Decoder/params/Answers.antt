use Rattle.std.proofs.Common.{rules, subst, List, ℕ, ◌≡◌, ◌++◌, Bool}
use Rattle.hb_libfile.proofs.ReadLemmas.{read_more_as, length_more}
use Rattle.hb_libfile.specs.Format.{term_bytes}
use Rattle.hb_term.specs.Meaning.{tree}
use Rattle.hb_libfile.proofs.item.Decoder.params.Goals as goal

pub loop-at-preserved : goal.loop-at-preserved
loop-at-preserved c =
    (search rules, search rules, length_more _ _ _ _ c.in_ok-push.ensures.items c.loop-at.invariant.2, read_more_as term_bytes tree c.loop-at.params.items c.push.new.self.items c.in_ok-ty.ty _ _ _ c.in_ok-push.ensures.items c.loop-at.invariant.3 c.in_ok-ty.ensures.read)
