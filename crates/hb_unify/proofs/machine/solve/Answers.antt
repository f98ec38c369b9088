use Rattle.hb_holes.specs.Places.{places}
use Rattle.hb_equations.specs.Machine.{begin, more}
use Rattle.hb_unify.proofs.TurnLemmas.{popped}
use Rattle.hb_unify.proofs.machine.solve.Goals as goal

pub loop-now-init : goal.loop-now-init
loop-now-init c = rw c.in-Ok.ensures begin

pub loop-now-preserved : goal.loop-now-preserved
loop-now-preserved c =
    more
    (popped c.loop-now.machine.moves (places c.loop-now.machine.holes.items) c.loop-now.machine.left.items c.pop.new.self.items c.in-Some.now
    c.in-Some.ensures.items c.loop-now.invariant)
    c.in-Ok-turn_with.ensures.turn
