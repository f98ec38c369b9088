use Rattle.std.proofs.Common.{sym}
use Rattle.hb_grammar.specs.Machine as plain
use Rattle.hb_reader.specs.Views.{before}
use Rattle.hb_reader.proofs.measure.behind_at.Goals as goal

pub returns-else-is_universe : goal.returns-else-is_universe
returns-else-is_universe c = λ a w.
    rw c.if-is_universe.false
    (c.argument_or_close.ensures (plain.next (before c.args.b.now) a) w (sym (c.count_next.ensures a)))

pub returns-then-is_universe : goal.returns-then-is_universe
returns-then-is_universe c = λ a w. rw c.if-is_universe.true (c.within.ensures.nested, c.within.ensures.applied)
