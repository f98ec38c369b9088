use Rattle.std.proofs.Common.{◌≤◌, length}
use Rattle.hb_found.specs.Plain.{setting}
use Rattle.hb_found.specs.Frames.{question, IsEnded, moves_of_end}
use Rattle.hb_found.proofs.walking.resume.Given as goal

abbrev pub invariant-loop-waiting : goal.invariant-loop-waiting
invariant-loop-waiting l = IsEnded (setting l.fn.reads) l.fn.depth (question l.fn.asked) l.stack l.ended × (moves_of_end l.fn.ended ≤ moves_of_end l.ended)

abbrev pub decreases-loop-waiting : goal.decreases-loop-waiting
decreases-loop-waiting l = length l.stack.items
