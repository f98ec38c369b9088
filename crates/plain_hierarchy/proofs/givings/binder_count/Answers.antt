use Rattle.std.proofs.Common.{arith, sym, ◌∙◌, ap, length, Some}
use Rattle.plain_hierarchy.proofs.GivenLemmas.{count-first, count-none}
use Rattle.plain_hierarchy.proofs.givings.binder_count.Goals as goal

pub returns-then-is_at : goal.returns-then-is_at
returns-then-is_at c =
    ap (λ l. Some (length l)) c.binders_at.ensures ∙ sym (count-first c.args.givings.now c.args.carrier c.loop-at.at (omega arith) (sym c.if-is_at.ensures) c.loop-at.invariant)

pub returns : goal.returns
returns c = sym (count-none c.args.givings.now c.args.carrier c.loop-at.at (omega arith) c.loop-at.invariant)
