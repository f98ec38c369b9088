use Rattle.std.proofs.Common.{◌≡◌, ◌<◌, ◌≤◌, ◌+◌, refl, arith}
use Rattle.hb_term.specs.Meaning.{tree}
use Rattle.hb_holes.specs.Holes.{filled}
use Rattle.hb_holes.specs.Places.{places}
use Rattle.hb_found.specs.Plain.{setting}
use Rattle.hb_equations.specs.Machine.{stop_moves}
use Rattle.hb_unify.proofs.TurnLemmas.{turn_of}
use Rattle.hb_unify.proofs.machine.turn.Goals as goal

pub returns-then-machine-steps_of-clause-turn : goal.returns-then-machine-steps_of-clause-turn
returns-then-machine-steps_of-clause-turn c =
    let h : c.args.reads.limits.now.steps ≤ c.args.machine.moves = omega (arith, c.steps_of.ensures, c.if-machine-steps_of.true) in
    stop_moves h

pub returns-clause-turn : goal.returns-clause-turn
returns-clause-turn c =
    let h : c.args.machine.moves < c.args.reads.limits.now.steps = omega (arith, c.steps_of.ensures, c.if-machine-steps_of.false) in
    let l : tree c.in-Ok.left ≡ filled (places c.args.machine.holes.items) c.args.now.now.depth (tree c.args.now.now.left) = rw c.deref.ensures.value at c.in-Ok.ensures in
    let r : tree c.in-Ok-side.right ≡ filled (places c.args.machine.holes.items) c.args.now.now.depth (tree c.args.now.now.right) =
    rw c.deref-2.ensures.value at c.in-Ok-side.ensures in
    turn_of (setting c.args.reads) c.args.machine.moves (c.args.machine.moves + 1) c.in-Ok-take_up.taken.moves c.args.now.now.depth
    (places c.args.machine.holes.items) c.args.now.now.relation (tree c.args.now.now.left) (tree c.args.now.now.right) (tree c.in-Ok.left)
    (tree c.in-Ok-side.right) _ _ c.next.result h l r refl (rw c.deref-3.ensures.value at c.in-Ok-take_up.ensures.acts) c.next.ensures
