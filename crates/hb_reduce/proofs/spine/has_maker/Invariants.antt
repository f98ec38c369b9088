use Rattle.std.proofs.Common.{◌≡◌}
use Rattle.hb_reduce.specs.Kinds.{kind, grown, neutral}
use Rattle.hb_reduce.proofs.spine.has_maker.Given as goal

abbrev pub invariant-loop-f : goal.invariant-loop-f
invariant-loop-f l = grown (kind l.now) ≡ neutral → grown (kind l.fn.part) ≡ neutral
