use Rattle.std.proofs.Common.{length}
use Rattle.hb_reduce.specs.Walks.{IsAbove}
use Rattle.hb_reduce.proofs.walk.ascend.Given as goal

abbrev pub invariant-loop-now : goal.invariant-loop-now
invariant-loop-now l = IsAbove l.initial.frames l.fn.part l.frames l.now

abbrev pub decreases-loop-now : goal.decreases-loop-now
decreases-loop-now l = length l.frames
