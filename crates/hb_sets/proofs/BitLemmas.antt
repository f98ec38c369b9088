-- Bits of words: the lowest that is set in one word and not in another.
use Rattle.std.proofs.Common.{◌≡◌, ℕ, ◌-◌, ◌<◌, ◌^◌, min, arith, bit_and, ◌∙◌, ap}
use Rattle.std.specs.Int.{bit_at, bit_not, trailing_zeros}
use Rattle.std.specs.Int.{w64}
use Rattle.std.proofs.lemmas.Nat.Bits.{bit_at_and, bit_at_not, bit_at-lt, bit_at-zero, bit_at-trailing_zeros}
use Rattle.std.proofs.lemmas.Nat.{and_le_l}
use Rattle.hb_sets.specs.Words.{IsOutside, OutsideNone, IsFirstBit}

-- a bit of `a & !b`
pub bit_at-outside : (a b k : ℕ) → b < 2 ^ 64 → k < 64 → bit_at (bit_and a (bit_not w64 b)) k ≡ min (bit_at a k) (1 - bit_at b k)
bit_at-outside a b k fits within = bit_at_and a (bit_not w64 b) k ∙ ap (min (bit_at a k)) (bit_at_not w64 b k fits within)

pub outside-set : (a b k : ℕ) → b < 2 ^ 64 → k < 64 → bit_at (bit_and a (bit_not w64 b)) k ≡ 1 → IsOutside a b k
outside-set a b k fits within is =
    let e = bit_at-outside a b k fits within in
    record { inside = omega (arith, bit_at-lt a k, bit_at-lt b k); outside = omega (arith, bit_at-lt a k, bit_at-lt b k) }

pub outside-clear : (a b k : ℕ) → b < 2 ^ 64 → k < 64 → bit_at (bit_and a (bit_not w64 b)) k ≡ 0 → ¬ (IsOutside a b k)
outside-clear a b k fits within is out =
    let e = bit_at-outside a b k fits within in
    let i = out.inside in
    let o = out.outside in
    omega arith

pub outside_none : (a b : ℕ) → b < 2 ^ 64 → bit_and a (bit_not w64 b) ≡ 0 → OutsideNone a b
outside_none a b fits is k within = outside-clear a b k fits within (ap (λ n. bit_at n k) is ∙ bit_at-zero k)

pub outside_first : (a b : ℕ) → a < 2 ^ 64 → b < 2 ^ 64 → 0 < bit_and a (bit_not w64 b) → IsFirstBit a b (trailing_zeros w64 (bit_and a (bit_not w64 b)))
outside_first a b a_fits fits some =
    let n = bit_and a (bit_not w64 b) in
    let small : n < 2 ^ 64 = omega (arith, and_le_l a (bit_not w64 b)) in
    let t = bit_at-trailing_zeros w64 n some small in
    record {
      within = t.0;
      first = outside-set a b _ fits t.0 t.1;
      lowest = λ k lt. outside-clear a b k fits (omega (arith, lt, t.0)) (t.2 k lt);
    }
