use Rattle.std.proofs.Common.{◌≢◌, ℕ, ◌<◌}
use Rattle.hb_order.specs.Heirs.{mix}
use Rattle.plain_hierarchy.proofs.allowed.first_same.Given as goal

abbrev pub invariant-loop-at : goal.invariant-loop-at
invariant-loop-at l = (k : ℕ) → k < l.at → mix l.structures k ≢ l.set
