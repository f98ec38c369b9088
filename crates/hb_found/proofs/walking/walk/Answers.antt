use Rattle.std.proofs.Common.{◌∙◌, ◌≤◌, ◌<◌, reverse, sym, ap, arith}
use Rattle.hb_term.specs.Meaning.{tree}
use Rattle.hb_found.specs.Plain.{setting}
use Rattle.hb_found.specs.Frames.{question_of, moves_of_end, moves_of_then}
use Rattle.hb_found.proofs.FrameLemmas.{begun_on, asked_for, held_none, stopped, is_after}
use Rattle.hb_found.proofs.walking.walk.Goals as goal

pub loop-stop-init : goal.loop-stop-init
loop-stop-init c =
    let b = c.in-Ok.ensures in (
      begun_on (setting c.args.reads) c.args.depth c.in-Ok.begun (b.3 ∙ sym (ap tree b.2)) (b.4 ∙ sym b.1),
      held_none (setting c.args.reads) c.args.depth _ c.new-stack.result.items (question_of c.in-Ok.begun) c.new-stack.ensures.items (asked_for c.in-Ok.begun _ _ _ b.0 b.1 b.2),
      omega (arith, b.4),
    )

pub returns-in-Err-clause-walks : goal.returns-in-Err-clause-walks
returns-in-Err-clause-walks c =
    stopped (setting c.args.reads) c.args.depth (record { set = c.args.set.now; start = c.args.start; carrier = tree c.args.carrier.now }) (reverse c.loop-stop.stack.items)
    (question_of c.loop-stop.walker) _ c.loop-stop.invariant.1 (c.loop-stop.invariant.0 _ c.in-Err.ensures)

pub go_on-requires : goal.go_on-requires
go_on-requires c = record { question = question_of c.loop-stop.walker; then_is = c.in-Ok-first.ensures.then; held = c.loop-stop.invariant.1 }

pub returns-in-Ok-Ends-clause-after : goal.returns-in-Ok-Ends-clause-after
returns-in-Ok-Ends-clause-after c =
    let m : moves_of_then c.in-Ok-first.then ≤ moves_of_end c.in-Ok-Ends.end = rw c.in-Ok-Ends.field-0-is at c.in-Ok-Ends.ensures.after in
    is_after c.args.start c.in-Ok-Ends.end (omega (arith, c.loop-stop.invariant.2, c.in-Ok-look.ensures.moves, c.in-Ok-first.ensures.after, m))

pub loop-stop-smaller : goal.loop-stop-smaller
loop-stop-smaller c =
    let m : moves_of_then c.in-Ok-first.then ≤ c.in-Ok-Goes.next.moves = rw c.in-Ok-Goes.field-0-is at c.in-Ok-Goes.ensures.after in
    let r : c.loop-stop.walker.moves < c.args.reads.limits.now.steps = c.in-Ok-look.ensures.room in
    omega (arith, r, c.in-Ok-look.ensures.moves, c.in-Ok-first.ensures.after, m)

pub loop-stop-preserved : goal.loop-stop-preserved
loop-stop-preserved c =
    let m : moves_of_then c.in-Ok-first.then ≤ c.in-Ok-Goes.next.moves = rw c.in-Ok-Goes.field-0-is at c.in-Ok-Goes.ensures.after in
    let t = rw c.in-Ok-Goes.field-0-is at c.in-Ok-Goes.ensures.next in
    (t.0, t.1, omega (arith, c.loop-stop.invariant.2, c.in-Ok-look.ensures.moves, c.in-Ok-first.ensures.after, m))
