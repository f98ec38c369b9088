use Rattle.std.proofs.Common.{ℕ, ◌<◌}
use Rattle.plain_hierarchy.specs.Scans.{IsPastHolder}
use Rattle.hb_givings.specs.Givings.{givings_at}
use Rattle.plain_hierarchy.proofs.needs.is_below_holders.Given as goal

abbrev pub invariant-loop-place : goal.invariant-loop-place
invariant-loop-place l = (k : ℕ) → k < l.place → IsPastHolder l.structures (givings_at l.givings l.carrier) l.set l.at l.s.0 k
