use Rattle.std.proofs.Common.{ℕ, ◌<◌, slice_index}
use Rattle.hb_sets.specs.Words.{OutsideNone}
use Rattle.hb_sets.proofs.mix_set.MixSet.first_outside.Given as goal

abbrev pub invariant-loop-i : goal.invariant-loop-i
invariant-loop-i l = (k : ℕ) → k < l.i → OutsideNone (slice_index l.self-inside.words k) (slice_index l.other-inside.words k)
