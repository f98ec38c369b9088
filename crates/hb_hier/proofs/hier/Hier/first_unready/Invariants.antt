use Rattle.std.proofs.Common.{ℕ, ◌<◌}
use Rattle.hb_sets.specs.Set.{In}
use Rattle.hb_hier.specs.Hierarchy.{sets}
use Rattle.hb_givings.specs.Givings.{givings_at}
use Rattle.hb_hier.specs.Giving.{IsReady}
use Rattle.hb_hier.proofs.hier.Hier.first_unready.Given as goal

abbrev pub invariant-loop-m : goal.invariant-loop-m
invariant-loop-m l = (k : ℕ) → k < l.m → In l.set k → IsReady (sets l.self) (givings_at l.self.givings l.carrier) l.binders k
