-- For each mixin the list of the structures that hold it.
use Rattle.std.specs.Prelude.{◌≡◌, ℕ, ◌<◌, Bool, nat_lt, if◌then◌else◌, List, [], ◌∷◌, ◌++◌, filter, slice_index_or}
use Rattle.hb_sets.specs.Set.{Set, contains}
use Rattle.hb_order.specs.declared.ids.StructId.{StructId}
use Rattle.hb_joins.specs.Holding.{structures_with}

-- the list of mixin m
abbrev pub held : List (List StructId) → ℕ → List StructId
held lists m = slice_index_or lists m []

-- the structure comes before the n-th
abbrev pub is_before : ℕ → StructId → Bool
is_before n s = nat_lt s.0 n

-- the list without the structures from the n-th on
abbrev pub held_before : ℕ → List StructId → List StructId
held_before n list = filter (is_before n) list

-- each list has structures before the n-th alone
abbrev pub AllBefore : ℕ → List (List StructId) → Type 0
AllBefore n lists = (m : ℕ) → m < 1024 → held_before n (held lists m) ≡ held lists m

-- the list of mixin m, with s at its end where the set x has m
abbrev pub held_after : StructId → Set → ℕ → List StructId → List StructId
held_after s x m list = if contains x m then list ++ s ∷ [] else list

-- s was added to the lists of the mixins of x
abbrev pub IsAdded : StructId → Set → List (List StructId) → List (List StructId) → Type 0
IsAdded s x old new = (m : ℕ) → m < 1024 → held new m ≡ held_after s x m (held old m)

-- the lists are without the structures from the n-th on
abbrev pub IsCutBefore : ℕ → List (List StructId) → List (List StructId) → Type 0
IsCutBefore n old new = (m : ℕ) → m < 1024 → held new m ≡ held_before n (held old m)

-- the list of each mixin has the structures that hold it
abbrev pub AreHeld : List Set → List (List StructId) → Type 0
AreHeld h lists = (m : ℕ) → m < 1024 → held lists m ≡ structures_with h m
