use Rattle.std.proofs.Common.{◌≡◌, ℕ, ◌<◌, ◌≤◌, length, slice_index, bit_or}
use Rattle.hb_sets.proofs.mix_set.MixSet.union.Given as goal

abbrev pub invariant-loop-i : goal.invariant-loop-i
invariant-loop-i l =
    (length l.words ≡ 16)
    × ((k : ℕ) → k < l.i → slice_index l.words k ≡ bit_or (slice_index l.initial.words k) (slice_index l.other-inside.words k))
    × ((k : ℕ) → l.i ≤ k → slice_index l.words k ≡ slice_index l.initial.words k)
