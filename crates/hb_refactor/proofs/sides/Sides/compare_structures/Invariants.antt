use Rattle.hb_refactor.specs.Keeping.{AllStructuresKept}
use Rattle.hb_refactor.specs.Sides.{both}
use Rattle.hb_refactor.proofs.sides.Sides.compare_structures.Given as goal

abbrev pub invariant-loop-at : goal.invariant-loop-at
invariant-loop-at l = AllStructuresKept (both l.self) l.at
