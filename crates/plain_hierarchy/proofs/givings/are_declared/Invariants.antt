use Rattle.std.proofs.Common.{ℕ, ◌<◌}
use Rattle.plain_hierarchy.specs.Scans.{IsBinderBelow}
use Rattle.plain_hierarchy.proofs.givings.are_declared.Given as goal

abbrev pub invariant-loop-at : goal.invariant-loop-at
invariant-loop-at l = (k : ℕ) → k < l.at → IsBinderBelow l.count l.binders k
