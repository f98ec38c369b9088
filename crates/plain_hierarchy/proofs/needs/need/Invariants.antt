use Rattle.std.proofs.Common.{ℕ, ◌<◌}
use Rattle.hb_order.specs.Needs.{IsNeeded}
use Rattle.hb_givings.specs.Givings.{givings_at}
use Rattle.plain_hierarchy.proofs.needs.need.Given as goal

abbrev pub invariant-loop-place : goal.invariant-loop-place
invariant-loop-place l = (k : ℕ) → k < l.place → ¬ (IsNeeded l.structures (givings_at l.givings l.carrier) l.set l.at k)
