use Rattle.std.proofs.Common.{sym, ◌∙◌, true≢false, arith, below_more}
use Rattle.plain_hierarchy.proofs.needs.need.Goals as goal

pub loop-place-preserved : goal.loop-place-preserved
loop-place-preserved c = below_more _ _ c.loop-place.invariant (λ needed. true≢false (sym (c.is_needed.ensures.1 needed) ∙ c.if-is_needed.false))

pub returns-clause-none : goal.returns-clause-none
returns-clause-none c = λ _ s needed. let declared = needed.holds.declared in c.loop-place.invariant s (omega (arith, declared)) needed
