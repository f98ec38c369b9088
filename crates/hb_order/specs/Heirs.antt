-- Heirs and joins of structures, by the sets of their mixins (after Sakaguchi, "Validating Mathematical
-- Structures", IJCAR 2020). A list h has the sets of the declared structures, in the order of declaration.
use Rattle.std.specs.Prelude.{ℕ, ◌<◌, List, length, slice_index_or}
use Rattle.hb_sets.specs.Set.{Set, Inside, empty}

-- the mixins of structure s
abbrev pub mix : List Set → ℕ → Set
mix h s = slice_index_or h s empty

-- a is an heir of b: it has each mixin that b has
abbrev pub IsHeir : List Set → ℕ → ℕ → Type 0
IsHeir h a b = Inside (mix h b) (mix h a)

-- structure j is declared, and an heir of a and of b
pub record IsCommonHeir (h : List Set) (a b j : ℕ) : Type 0 where
  pub declared : j < length h
  pub left : IsHeir h j a
  pub right : IsHeir h j b

-- the join of a and b: the common heir whose set is inside that of every common heir
pub record IsJoin (h : List Set) (a b j : ℕ) : Type 0 where
  pub heir : IsCommonHeir h a b j
  pub least : (k : ℕ) → IsCommonHeir h a b k → IsHeir h k j
