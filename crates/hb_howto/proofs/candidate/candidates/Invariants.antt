use Rattle.hb_howto.specs.Tried.{AreFound}
use Rattle.hb_howto.proofs.candidate.candidates.Given as goal

abbrev pub invariant-loop-at : goal.invariant-loop-at
invariant-loop-at l = AreFound l.hier l.given l.at l.all.items
