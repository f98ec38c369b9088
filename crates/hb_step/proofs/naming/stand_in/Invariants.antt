use Rattle.hb_step.proofs.naming.stand_in.Given as goal

abbrev pub invariant-loop-decl : goal.invariant-loop-decl
invariant-loop-decl l = Unit {0}
