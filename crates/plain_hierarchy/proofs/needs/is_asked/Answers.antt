use Rattle.std.proofs.Common.{sym, ◌∙◌, true≢false, arith, below_more}
use Rattle.plain_hierarchy.proofs.needs.is_asked.Goals as goal

pub loop-m-preserved : goal.loop-m-preserved
loop-m-preserved c = below_more _ _ c.loop-m.invariant (λ asked. true≢false (sym (c.is_asked_for.ensures.1 asked) ∙ c.if-is_asked_for.false))

pub returns : goal.returns
returns c = (
  λ off. absurd (true≢false (sym off)),
  λ asked. absurd (let small = c.members_are_small.ensures asked.0 asked.2 in c.loop-m.invariant asked.0 (omega (arith, small)) (asked.1, asked.2, asked.3)),
)
