use Rattle.std.proofs.Common.{ℕ, ◌<◌}
use Rattle.hb_sets.specs.Set.{In}
use Rattle.plain_hierarchy.specs.Scans.{HoldsFor}
use Rattle.hb_givings.specs.Givings.{givings_at}
use Rattle.plain_hierarchy.proofs.needs.holds_asked.Given as goal

abbrev pub invariant-loop-m : goal.invariant-loop-m
invariant-loop-m l = (k : ℕ) → k < l.m → In l.set k → HoldsFor l.structures (givings_at l.givings l.carrier) l.at l.s.0 k
