use Rattle.std.proofs.Common.{◌≤◌, ◌-◌, reverse}
use Rattle.hb_term.specs.Meaning.{tree}
use Rattle.hb_found.specs.Plain.{setting}
use Rattle.hb_found.specs.Frames.{IsOn, Held, question_of}
use Rattle.hb_found.proofs.walking.walk.Given as goal

abbrev pub invariant-loop-stop : goal.invariant-loop-stop
invariant-loop-stop l =
    IsOn (setting l.fn.reads) l.fn.depth l.walker
    × Held (setting l.fn.reads) l.fn.depth (record { set = l.fn.set; start = l.fn.start; carrier = tree l.fn.carrier }) (reverse l.stack.items) (question_of l.walker)
    × (l.fn.start ≤ l.walker.moves)

abbrev pub decreases-loop-stop : goal.decreases-loop-stop
decreases-loop-stop l = l.fn.reads.limits.now.steps - l.walker.moves
