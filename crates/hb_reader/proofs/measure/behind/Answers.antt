use Rattle.std.proofs.Common.{sym}
use Rattle.hb_grammar.specs.Machine as plain
use Rattle.hb_reader.specs.Stacks.{stack}
use Rattle.hb_reader.specs.Views.{before}
use Rattle.hb_reader.proofs.MeasureLemmas.{behind_leaf_else}
use Rattle.hb_reader.proofs.measure.behind.Goals as goal

pub returns-in-At : goal.returns-in-At
returns-in-At c = λ a w. rw c.in-At.is (c.behind_at.ensures a w)

pub returns-in_default : goal.returns-in_default
returns-in_default c = λ a w.
    rw (behind_leaf_else (before c.args.b.now) a c.args.is_universe (stack c.args.around.now) c.args.mark w
    c.in_default.not-Project c.in_default.not-Arrow c.in_default.not-At)
    (c.argument_or_close.ensures (plain.next (before c.args.b.now) a) w (sym (c.count_next.ensures a)))

pub returns-in-Project : goal.returns-in-Project
returns-in-Project c = λ a w. rw c.in-Project.is (c.within.ensures.nested, c.within.ensures.applied)

pub returns-in-Arrow : goal.returns-in-Arrow
returns-in-Arrow c = λ a w. rw c.in-Arrow.is (c.within-in-Arrow.ensures.nested, c.within-in-Arrow.ensures.applied)
