-- A set of numbers below 1,024 in 16 words of 64 bits: n is bit n % 64 of word n / 64.
use Rattle.std.specs.Prelude.{◌≡◌, ℕ, zero, suc, ◌<◌, ◌/◌, ◌%◌, ◌==◌, ◌-◌, min, Bool, cond, List, slice_index}
use Rattle.std.specs.Int.{bit_at}
use Rattle.hb_sets.specs.Set.{Set, empty, insert}

-- the bit of n is set
abbrev pub has_bit : List ℕ → ℕ → Bool
has_bit words n = bit_at (slice_index words (n / 64)) (n % 64) == 1

-- the numbers below n whose bits are set
unfoldable pub members_below : ℕ → List ℕ → Set
members_below zero words = empty
members_below (suc n) words = cond (has_bit words n) (insert (members_below n words) n) (members_below n words)

-- the numbers below 1,024 whose bits are set
unfoldable pub members : List ℕ → Set
members words = members_below 1024 words

-- bit k of a is set, and not that of b
pub record IsOutside (a b k : ℕ) : Type 0 where
  pub inside : bit_at a k ≡ 1
  pub outside : bit_at b k ≡ 0

-- no bit of a is set that isn't set in b
abbrev pub OutsideNone : ℕ → ℕ → Type 0
OutsideNone a b = (k : ℕ) → k < 64 → ¬ (IsOutside a b k)

-- bit n is the lowest that is set in a and not in b
pub record IsFirstBit (a b n : ℕ) : Type 0 where
  pub within : n < 64
  pub first : IsOutside a b n
  pub lowest : (k : ℕ) → k < n → ¬ (IsOutside a b k)

-- r has the bits that are set in a and not in b
abbrev pub IsWordOutside : ℕ → ℕ → ℕ → Type 0
IsWordOutside a b r = (k : ℕ) → k < 64 → bit_at r k ≡ min (bit_at a k) (1 - bit_at b k)
