use Rattle.std.proofs.Common.{◌≡◌, ℕ, ◌<◌, ◌≤◌, length, slice_index}
use Rattle.hb_sets.specs.Words.{IsWordOutside}
use Rattle.hb_sets.proofs.mix_set.MixSet.minus.Given as goal

abbrev pub invariant-loop-i : goal.invariant-loop-i
invariant-loop-i l =
    (length l.words ≡ 16)
    × ((k : ℕ) → k < l.i → IsWordOutside (slice_index l.initial.words k) (slice_index l.other-inside.words k) (slice_index l.words k))
    × ((k : ℕ) → l.i ≤ k → slice_index l.words k ≡ slice_index l.initial.words k)
