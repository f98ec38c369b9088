use Rattle.hb_reader.specs.Stacks.{stack}
use Rattle.hb_reader.specs.Views.{before}
use Rattle.hb_reader.proofs.MeasureLemmas.{universe_leaf_else}
use Rattle.hb_reader.proofs.measure.universe_at.Goals as goal

pub returns-in_default : goal.returns-in_default
returns-in_default c = λ a w.
    rw (universe_leaf_else (before c.args.b.now) a (stack c.args.around.now) c.args.mark w c.in_default.not-Brace)
    (c.depth.ensures, c.count_next.ensures a)

pub returns-in-Brace : goal.returns-in-Brace
returns-in-Brace c = λ a w. rw c.in-Brace.is (c.within.ensures.nested, c.within.ensures.applied)
