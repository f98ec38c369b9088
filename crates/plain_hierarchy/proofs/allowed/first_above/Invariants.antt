use Rattle.std.proofs.Common.{ℕ, ◌<◌}
use Rattle.hb_sets.specs.Set.{Inside}
use Rattle.hb_order.specs.Heirs.{mix}
use Rattle.plain_hierarchy.proofs.allowed.first_above.Given as goal

abbrev pub invariant-loop-at : goal.invariant-loop-at
invariant-loop-at l = (k : ℕ) → k < l.at → ¬ (Inside l.set (mix l.structures k))
