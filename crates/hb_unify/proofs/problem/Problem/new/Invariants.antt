use Rattle.std.proofs.Common.{◌≡◌}
use Rattle.std.specs.Prelude.{replicate}
use Rattle.hb_holes.specs.Places.{places}
use Rattle.hb_unify.specs.Problems.{passed}
use Rattle.hb_unify.proofs.problem.Problem.new.Given as goal

abbrev pub invariant-loop-at : goal.invariant-loop-at
invariant-loop-at l = places l.holes.items ≡ replicate l._at passed
