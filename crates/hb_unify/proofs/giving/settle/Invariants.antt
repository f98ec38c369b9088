use Rattle.std.proofs.Common.{◌≡◌, map, take}
use Rattle.hb_holes.specs.Holes.{refilled}
use Rattle.hb_holes.specs.Places.{places}
use Rattle.hb_unify.proofs.giving.settle.Given as goal

abbrev pub invariant-loop-slot : goal.invariant-loop-slot
invariant-loop-slot l = places l.out.items ≡ map (refilled (places l.holes)) (places (take l.slot-index l.holes))
