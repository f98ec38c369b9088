use Rattle.std.proofs.Common.{◌≡◌, length}
use Rattle.hb_reduce.specs.Frames.{plug}
use Rattle.hb_reduce.specs.Kinds.{neutral, IsClearFor, IsHeadPath}
use Rattle.hb_reduce.proofs.settle.settle.Given as goal

abbrev pub invariant-loop-alloc : goal.invariant-loop-alloc
invariant-loop-alloc l =
    (plug l.frames l.now ≡ plug l.initial.frames l.fn.part)
    × IsClearFor l.fn.env l.frames neutral
    × (IsHeadPath l.initial.frames → IsHeadPath l.frames)

abbrev pub decreases-loop-alloc : goal.decreases-loop-alloc
decreases-loop-alloc l = length l.frames
