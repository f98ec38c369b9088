use Rattle.std.proofs.Common.{ℕ, ◌<◌}
use Rattle.plain_hierarchy.specs.Scans.{HasNeed}
use Rattle.hb_givings.specs.Givings.{givings_at}
use Rattle.plain_hierarchy.proofs.needs.takes.Given as goal

abbrev pub invariant-loop-at : goal.invariant-loop-at
invariant-loop-at l = (k : ℕ) → k < l.at → HasNeed l.structures (givings_at l.givings l.carrier) l.set k
