use Rattle.std.proofs.Common.{◌≡◌, map}
use Rattle.hb_term.specs.Meaning.{tree}
use Rattle.hb_calculus.specs.Telescopes as telescopes
use Rattle.hb_unify.proofs.fields.projections.Given as goal

abbrev pub invariant-loop-field : goal.invariant-loop-field
invariant-loop-field l = map tree l.out.items ≡ telescopes.projections l.rec 0 l.field (tree l.of)
