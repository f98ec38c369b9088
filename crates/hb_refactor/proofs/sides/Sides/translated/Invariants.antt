use Rattle.std.proofs.Common.{◌≡◌}
use Rattle.hb_refactor.specs.Keeping.{brought_below}
use Rattle.hb_refactor.specs.Sides.{both}
use Rattle.hb_refactor.proofs.sides.Sides.translated.Given as goal

abbrev pub invariant-loop-m : goal.invariant-loop-m
invariant-loop-m l = l.all ≡ brought_below (both l.self) l.set l.m
