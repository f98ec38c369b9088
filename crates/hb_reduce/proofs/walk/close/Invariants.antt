use Rattle.std.proofs.Common.{◌≡◌, length}
use Rattle.hb_reduce.specs.Frames.{plug}
use Rattle.hb_reduce.proofs.walk.close.Given as goal

abbrev pub invariant-loop-side : goal.invariant-loop-side
invariant-loop-side l = plug l.frames l.now ≡ plug l.initial.frames l.fn.part

abbrev pub decreases-loop-side : goal.decreases-loop-side
decreases-loop-side l = length l.frames
