use Rattle.std.proofs.Common.{below_more}
use Rattle.plain_hierarchy.proofs.needs.takes.Goals as goal

pub loop-at-preserved : goal.loop-at-preserved
loop-at-preserved c = below_more _ _ c.loop-at.invariant (c.has_need.ensures.0 c.if-not-has_need.false)
