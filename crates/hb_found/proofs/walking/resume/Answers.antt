use Rattle.std.proofs.Common.{◌≡◌, ◌≤◌, [], reverse, arith, rules}
use Rattle.hb_found.specs.Plain.{setting}
use Rattle.hb_found.specs.Frames.{question, question_of, moves_of_end}
use Rattle.hb_found.proofs.FrameLemmas.{held_popped, held_put, held_same, all_ended}
use Rattle.hb_found.proofs.walking.resume.Goals as goal

pub receive-requires : goal.receive-requires
receive-requires c =
    let i = c.loop-waiting.invariant.0 in
    let h = held_popped (setting c.args.reads) c.args.depth (question c.args.asked) c.loop-waiting.stack.items c.pop.new.self.items c.in-Some.waiting i.question c.in-Some.ensures.items i.held in
    record { question = i.question; waits = h.0; answers = i.answers }

pub returns-in-Waits-clause-next : goal.returns-in-Waits-clause-next
returns-in-Waits-clause-next c =
    let i = c.loop-waiting.invariant.0 in
    let h = held_popped (setting c.args.reads) c.args.depth (question c.args.asked) c.loop-waiting.stack.items c.pop.new.self.items c.in-Some.waiting i.question c.in-Some.ensures.items i.held in
    let t = rw c.in-Waits.is at c.in_ok-walker.ensures.then in
    (t.1, held_put (setting c.args.reads) c.args.depth (question c.args.asked) (reverse c.in_ok-stack-in-Waits.stack.items) (reverse c.pop.new.self.items) c.in-Waits.again _ _ c.in_ok-stack-in-Waits.ensures t.0 t.2 h.1)

pub returns-in-Waits-clause-after : goal.returns-in-Waits-clause-after
returns-in-Waits-clause-after c =
    let t : moves_of_end c.loop-waiting.ended ≤ c.in-Waits.walker.moves = rw c.in-Waits.is at c.in_ok-walker.ensures.after in
    omega (arith, c.loop-waiting.invariant.1, t)

pub returns-in-Goes-clause-next : goal.returns-in-Goes-clause-next
returns-in-Goes-clause-next c =
    let i = c.loop-waiting.invariant.0 in
    let h = held_popped (setting c.args.reads) c.args.depth (question c.args.asked) c.loop-waiting.stack.items c.pop.new.self.items c.in-Some.waiting i.question c.in-Some.ensures.items i.held in
    let t = rw c.in-Goes.is at c.in_ok-walker.ensures.then in
    (t.0, held_same (setting c.args.reads) c.args.depth (question c.args.asked) (reverse c.pop.new.self.items) _ _ t.1 h.1)

pub returns-in-Goes-clause-after : goal.returns-in-Goes-clause-after
returns-in-Goes-clause-after c =
    let t : moves_of_end c.loop-waiting.ended ≤ c.in-Goes.walker.moves = rw c.in-Goes.is at c.in_ok-walker.ensures.after in
    omega (arith, c.loop-waiting.invariant.1, t)

pub loop-waiting-preserved : goal.loop-waiting-preserved
loop-waiting-preserved c =
    let i = c.loop-waiting.invariant.0 in
    let h = held_popped (setting c.args.reads) c.args.depth (question c.args.asked) c.loop-waiting.stack.items c.pop.new.self.items c.in-Some.waiting i.question c.in-Some.ensures.items i.held in
    let t = rw c.in-Ends.is at c.in_ok-walker.ensures.then in
    let m : moves_of_end c.loop-waiting.ended ≤ moves_of_end c.in-Ends.next = rw c.in-Ends.is at c.in_ok-walker.ensures.after in
    (record { question = question_of c.in-Some.waiting.frame.walker; answers = t; held = h.1 }, omega (arith, c.loop-waiting.invariant.1, m))

pub returns-clause-next : goal.returns-clause-next
returns-clause-next c =
    let i = c.loop-waiting.invariant.0 in
    let z : c.loop-waiting.stack.items ≡ [] = search rules in
    all_ended (setting c.args.reads) c.args.depth (question c.args.asked) c.loop-waiting.stack.items i.question _ z i.held i.answers
