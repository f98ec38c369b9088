use Rattle.std.proofs.Common.{ℕ, ◌<◌}
use Rattle.plain_hierarchy.specs.Scans.{IsAskedFor}
use Rattle.hb_givings.specs.Givings.{givings_at}
use Rattle.plain_hierarchy.proofs.needs.is_asked.Given as goal

abbrev pub invariant-loop-m : goal.invariant-loop-m
invariant-loop-m l = (k : ℕ) → k < l.m → ¬ (IsAskedFor (givings_at l.givings l.carrier) l.set l.at k)
