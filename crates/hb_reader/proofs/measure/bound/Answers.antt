use Rattle.std.proofs.Common.{refl}
use Rattle.hb_reader.specs.Stacks.{binding}
use Rattle.hb_reader.proofs.MeasureLemmas.{binding_leaf_else}
use Rattle.hb_reader.proofs.measure.bound.Goals as goal

pub returns-in_default : goal.returns-in_default
returns-in_default c = λ w.
    rw (binding_leaf_else (binding c.args.around.now) c.args.mark w c.in_default.not-Open) (c.binding_depth.ensures, refl)

pub returns-in-Open : goal.returns-in-Open
returns-in-Open c = λ w. rw c.in-Open.is (c.bracketed.ensures.nested, c.bracketed.ensures.applied)
