-- Finite sets of natural numbers, in the words of set theory.
use Rattle.std.specs.Prelude.{ℕ, ◌<◌, IsTrue}
use Rattle.std.specs.Ordering.{nat_cmp}
use Rattle.std.specs.Coded.{Coded, coded_ℕ}
use Rattle.std.specs.FinSet.{FinSet, code}
pub use Rattle.std.specs.FinSet.{empty, contains, insert, union, difference, is_subset, items}

-- a finite set of numbers
abbrev pub Set : Type 0
Set = FinSet nat_cmp

abbrev pub set_code : Coded Set
set_code = code coded_ℕ

-- n is a member of s
abbrev pub In : Set → ℕ → Type 0
In s n = IsTrue (contains s n)

-- each member of s is one of t
abbrev pub Inside : Set → Set → Type 0
Inside s t = IsTrue (is_subset s t)

-- n is the least member of s that t hasn't
pub record IsFirstOutside (s t : Set) (n : ℕ) : Type 0 where
  pub inside : In s n
  pub outside : ¬ (In t n)
  pub least : (k : ℕ) → k < n → In s k → In t k

-- each member of s is below n
abbrev pub AllBelow : Set → ℕ → Type 0
AllBelow s n = (q : ℕ) → In s q → q < n
