use Rattle.std.proofs.Common.{sym, ◌∙◌, true≢false, arith, below_more}
use Rattle.hb_hier.proofs.hier.Hier.takes.Goals as goal

pub returns-then-not-has_need : goal.returns-then-not-has_need
returns-then-not-has_need c = (
  λ off. absurd (true≢false (sym off)),
  λ takes. absurd (true≢false (sym (c.has_need.ensures.1 (takes.needs c.loop-at.at (omega arith))) ∙ c.if-not-has_need.true)),
)

pub loop-at-preserved : goal.loop-at-preserved
loop-at-preserved c = below_more _ _ c.loop-at.invariant (c.has_need.ensures.0 c.if-not-has_need.false)
