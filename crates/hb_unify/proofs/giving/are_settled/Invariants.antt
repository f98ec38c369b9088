use Rattle.std.proofs.Common.{take}
use Rattle.hb_holes.specs.Places.{places}
use Rattle.hb_unify.specs.Settled.{AreSettled}
use Rattle.hb_unify.proofs.giving.are_settled.Given as goal

abbrev pub invariant-loop-slot : goal.invariant-loop-slot
invariant-loop-slot l = AreSettled (places (take l.slot-index l.holes))
