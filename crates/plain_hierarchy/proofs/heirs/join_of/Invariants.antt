use Rattle.std.proofs.Common.{ℕ, ◌<◌}
use Rattle.hb_order.specs.Heirs.{IsJoin}
use Rattle.plain_hierarchy.proofs.heirs.join_of.Given as goal

abbrev pub invariant-loop-at : goal.invariant-loop-at
invariant-loop-at l = (k : ℕ) → k < l.at → ¬ (IsJoin l.structures l.a.0 l.b.0 k)
