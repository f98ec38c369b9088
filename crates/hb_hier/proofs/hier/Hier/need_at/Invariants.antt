use Rattle.std.proofs.Common.{length}
use Rattle.hb_hier.specs.Hierarchy.{sets}
use Rattle.hb_givings.specs.Givings.{givings_at}
use Rattle.hb_hier.specs.Least.{IsFoundBelow, IsNeedBelow}
use Rattle.hb_hier.proofs.hier.Hier.need_at.Given as goal

abbrev pub invariant-loop-m : goal.invariant-loop-m
invariant-loop-m l =
    IsFoundBelow (sets l.self) (givings_at l.self.givings l.carrier) l.set l.at l.m l.need
    × IsNeedBelow (length l.self.structures) l.need
