use Rattle.std.proofs.Common.{arith, sym, ◌∙◌}
use Rattle.plain_hierarchy.proofs.GivenLemmas.{condition-first, condition-none}
use Rattle.plain_hierarchy.proofs.givings.condition.Goals as goal

pub returns-then-gives_at : goal.returns-then-gives_at
returns-then-gives_at c =
    c.binders_at.ensures ∙ sym (condition-first c.args.givings.now c.args.carrier c.args.m.0 c.loop-at.at (omega arith) (sym c.if-gives_at.ensures) c.loop-at.invariant)

pub returns : goal.returns
returns c = sym (condition-none c.args.givings.now c.args.carrier c.args.m.0 c.loop-at.at (omega arith) c.loop-at.invariant)
