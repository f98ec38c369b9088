use Rattle.std.proofs.Common.{ℕ, ◌<◌}
use Rattle.hb_hier.specs.Hierarchy.{sets}
use Rattle.hb_hier.specs.Giving.{MetAt}
use Rattle.hb_hier.proofs.hier.Hier.is_met.Given as goal

abbrev pub invariant-loop-at : goal.invariant-loop-at
invariant-loop-at l = (k : ℕ) → k < l.at → MetAt (sets l.self) l.binders l.asked k
