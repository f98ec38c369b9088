use Rattle.std.proofs.Common.{ℕ, ◌<◌}
use Rattle.hb_hier.specs.Hierarchy.{sets}
use Rattle.hb_givings.specs.Givings.{givings_at}
use Rattle.hb_hier.specs.Least.{HasNeed}
use Rattle.hb_hier.proofs.hier.Hier.takes.Given as goal

abbrev pub invariant-loop-at : goal.invariant-loop-at
invariant-loop-at l = (i : ℕ) → i < l.at → HasNeed (sets l.self) (givings_at l.self.givings l.carrier) l.set i
