use Rattle.std.proofs.Common.{ℕ, ◌<◌}
use Rattle.hb_sets.specs.Set.{In}
use Rattle.hb_hier.specs.Hierarchy.{sets}
use Rattle.hb_givings.specs.Givings.{givings_at}
use Rattle.hb_hier.specs.Giving.{MetIfGiven}
use Rattle.hb_hier.proofs.hier.Hier.first_unmet.Given as goal

abbrev pub invariant-loop-d : goal.invariant-loop-d
invariant-loop-d l = (k : ℕ) → k < l.d → In l.set k → MetIfGiven (sets l.self) (givings_at l.self.givings l.carrier) l.binders k
