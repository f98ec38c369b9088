use Rattle.std.proofs.Common.{ℕ, ◌<◌}
use Rattle.plain_hierarchy.specs.Scans.{IsPast}
use Rattle.plain_hierarchy.proofs.heirs.is_below_heirs.Given as goal

abbrev pub invariant-loop-at : goal.invariant-loop-at
invariant-loop-at l = (k : ℕ) → k < l.at → IsPast l.structures l.a.0 l.b.0 l.j.0 k
