use Rattle.hb_refactor.specs.Keeping.{AllKept}
use Rattle.hb_refactor.specs.Sides.{both}
use Rattle.hb_refactor.proofs.sides.Sides.compare_names.Given as goal

abbrev pub invariant-loop-at : goal.invariant-loop-at
invariant-loop-at l = AllKept (both l.self) l.at
