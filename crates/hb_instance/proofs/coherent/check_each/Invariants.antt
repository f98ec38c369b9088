use Rattle.hb_instance.specs.Growing.{IsLonger}
use Rattle.hb_instance.proofs.coherent.check_each.Given as goal

abbrev pub invariant-loop-decl : goal.invariant-loop-decl
invariant-loop-decl l = IsLonger l.fn.theory l.theory
