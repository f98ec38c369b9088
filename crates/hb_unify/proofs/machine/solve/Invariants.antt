use Rattle.std.proofs.Common.{◌-◌, ◌∷◌, []}
use Rattle.hb_found.specs.Plain.{setting}
use Rattle.hb_holes.specs.Places.{places}
use Rattle.hb_equations.specs.Machine.{Turns, state}
use Rattle.hb_unify.specs.Plain.{state_of, goal_of}
use Rattle.hb_unify.proofs.machine.solve.Given as goal

abbrev pub invariant-loop-now : goal.invariant-loop-now
invariant-loop-now l = Turns (setting l.fn.reads) (state l.fn.moves (places l.fn.holes.items) (goal_of l.fn.equation ∷ [])) (state_of l.machine)

abbrev pub decreases-loop-now : goal.decreases-loop-now
decreases-loop-now l = l.fn.reads.limits.now.steps - l.machine.moves
