use Rattle.std.proofs.Common.{◌≡◌, ◌-◌}
use Rattle.hb_term.specs.Meaning.{tree}
use Rattle.hb_calculus.specs.Telescopes.{filled, projections}
use Rattle.hb_record.proofs.projection.with_projections.Given as goal

abbrev pub invariant-loop-field : goal.invariant-loop-field
invariant-loop-field l = filled l.part (projections l.rec l.field (l.fields - l.field) (tree l.value)) ≡ filled l.fn.part (projections l.rec 0 l.fields (tree l.value))
