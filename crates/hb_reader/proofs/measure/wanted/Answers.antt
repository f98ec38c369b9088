use Rattle.std.proofs.Common.{sym}
use Rattle.hb_reader.specs.Stacks.{stack}
use Rattle.hb_reader.specs.Views.{before}
use Rattle.hb_reader.proofs.MeasureLemmas.{begun_leaf_else}
use Rattle.hb_reader.proofs.measure.wanted.Goals as goal

pub returns-in_default : goal.returns-in_default
returns-in_default c = λ w.
    rw (begun_leaf_else (before c.args.b.now) (stack c.args.around.now) c.args.mark w c.in_default.not-Forall c.in_default.not-Fun)
    (c.argument.ensures (before c.args.b.now) w (sym c.count.ensures))

pub returns-in-Forall : goal.returns-in-Forall
returns-in-Forall c = λ w. rw c.in-Forall.is (c.within.ensures.nested, c.within.ensures.applied)

pub returns-in-Fun : goal.returns-in-Fun
returns-in-Fun c = λ w. rw c.in-Fun.is (c.within-in-Fun.ensures.nested, c.within-in-Fun.ensures.applied)
