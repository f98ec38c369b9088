use Rattle.hb_step.proofs.naming.is_made.Given as goal

abbrev pub invariant-loop-other : goal.invariant-loop-other
invariant-loop-other l = Unit {0}
