use Rattle.hb_step.proofs.naming.stands_before.Given as goal

abbrev pub invariant-loop-at : goal.invariant-loop-at
invariant-loop-at l = Unit {0}
