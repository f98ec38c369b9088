use Rattle.std.proofs.Common.{◌≢◌, ℕ, ◌<◌}
use Rattle.hb_order.specs.Heirs.{mix}
use Rattle.hb_joins.proofs.joins.Joins.first_same.Given as goal

abbrev pub invariant-loop-at : goal.invariant-loop-at
invariant-loop-at l = (k : ℕ) → k < l.at → mix l.self k ≢ l.set
