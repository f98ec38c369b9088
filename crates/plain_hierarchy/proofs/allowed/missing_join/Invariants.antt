use Rattle.std.proofs.Common.{ℕ, ◌<◌}
use Rattle.hb_order.specs.Allowed.{IsMissing}
use Rattle.plain_hierarchy.proofs.allowed.missing_join.Given as goal

abbrev pub invariant-loop-at : goal.invariant-loop-at
invariant-loop-at l = (k : ℕ) → k < l.at → ¬ (IsMissing l.structures l.set l.a.0 l.b.0 k)
