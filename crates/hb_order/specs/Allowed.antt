-- Which set a new structure may have, and the first part that fails.
use Rattle.std.specs.Prelude.{◌≡◌, ◌≢◌, ℕ, ◌<◌, List, length, take}
use Rattle.hb_sets.specs.Set.{Set, Inside, empty}
use Rattle.hb_order.specs.Heirs.{mix, IsCommonHeir, IsJoin}

-- the sets of a and b are inside x, and that of their join j isn't
pub record IsMissing (h : List Set) (x : Set) (a b j : ℕ) : Type 0 where
  pub left : Inside (mix h a) x
  pub right : Inside (mix h b) x
  pub join : IsJoin h a b j
  pub outside : ¬ (Inside (mix h j) x)

-- a structure with the set x may be declared after those of h: x isn't empty, it is inside no declared
-- set, and it holds the join of any two declared structures that it holds
pub record IsAllowed (h : List Set) (x : Set) : Type 0 where
  pub some : x ≢ empty
  pub not_above : (s : ℕ) → s < length h → ¬ (Inside x (mix h s))
  pub joins : (a b j : ℕ) → a < length h → b < length h → ¬ (IsMissing h x a b j)

-- each structure was allowed after those before it
abbrev pub AllAllowed : List Set → Type 0
AllAllowed h = (s : ℕ) → s < length h → IsAllowed (take s h) (mix h s)

-- s is the first structure that has the set x
pub record IsFirstSame (h : List Set) (x : Set) (s : ℕ) : Type 0 where
  pub declared : s < length h
  pub same : mix h s ≡ x
  pub first : (k : ℕ) → k < s → mix h k ≢ x

-- no structure has the set x
abbrev pub NoneSame : List Set → Set → Type 0
NoneSame h x = (s : ℕ) → s < length h → mix h s ≢ x

-- s is the first structure whose set x is inside
pub record IsFirstAbove (h : List Set) (x : Set) (s : ℕ) : Type 0 where
  pub declared : s < length h
  pub above : Inside x (mix h s)
  pub first : (k : ℕ) → k < s → ¬ (Inside x (mix h k))

-- x is inside the set of no structure
abbrev pub NoneAbove : List Set → Set → Type 0
NoneAbove h x = (s : ℕ) → s < length h → ¬ (Inside x (mix h s))

-- no structure after a and before n has with a a join that x misses
abbrev pub NoneMissingWith : List Set → Set → ℕ → ℕ → Type 0
NoneMissingWith h x a n = (b : ℕ) → a < b → b < n → (j : ℕ) → ¬ (IsMissing h x a b j)

-- a before b are the first two structures, by a and then by b, whose join j is missing in x
pub record IsFirstMissing (h : List Set) (x : Set) (a b j : ℕ) : Type 0 where
  pub later : a < b
  pub declared : b < length h
  pub missing : IsMissing h x a b j
  pub with_a : NoneMissingWith h x a b
  pub before : (c : ℕ) → c < a → NoneMissingWith h x c (length h)

-- The law: where the structures were all allowed, two with a common heir have exactly one join.
abbrev pub JoinsAreUnique : Type 0
JoinsAreUnique =
    (h : List Set) → AllAllowed h → (a b k : ℕ) → a < length h → b < length h → IsCommonHeir h a b k
    → (j : ℕ) × IsJoin h a b j × ((i : ℕ) → IsJoin h a b i → i ≡ j)
