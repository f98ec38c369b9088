-- Joins of the declared structures.
use Rattle.std.specs.Prelude.{◌≡◌, ℕ, ◌<◌, length}
use Rattle.hb_order.specs.Heirs.{IsCommonHeir, IsJoin}
use Rattle.hb_hier.specs.Hierarchy.{Hierarchy, sets}

-- exactly one structure is the join of a and b: the common heir whose mixins every common heir has
abbrev pub HasOneJoin : Hierarchy → (a b : ℕ) → Type 0
HasOneJoin h a b = (j : ℕ) × IsJoin (sets h) a b j × ((i : ℕ) → IsJoin (sets h) a b i → i ≡ j)

-- any two declared structures that have a common heir have one join
abbrev pub HaveJoins : Hierarchy → Type 0
HaveJoins h =
    (a b k : ℕ) → a < length (sets h) → b < length (sets h) → IsCommonHeir (sets h) a b k → HasOneJoin h a b
