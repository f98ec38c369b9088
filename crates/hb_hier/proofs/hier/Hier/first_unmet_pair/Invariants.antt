use Rattle.hb_givings.specs.Givings.{givings_at}
use Rattle.hb_hier.specs.Giving.{NewAreMet}
use Rattle.hb_hier.proofs.hier.Hier.first_unmet_pair.Given as goal

abbrev pub invariant-loop-m : goal.invariant-loop-m
invariant-loop-m l = NewAreMet l.self (givings_at l.self.givings l.carrier) l.binders l.set l.m
