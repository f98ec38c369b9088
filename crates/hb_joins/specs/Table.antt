-- The table of joins. Row b has an entry for each structure a up to b: the join of a and b, or nothing.
use Rattle.std.specs.Prelude.{◌≡◌, ℕ, suc, ◌<◌, ◌≤◌, Bool, nat_lt, if◌then◌else◌, List, [], length, Option, None, Some, slice_index_or}
use Rattle.hb_sets.specs.Set.{Set, is_subset}
use Rattle.hb_order.specs.declared.ids.StructId.{StructId}
use Rattle.hb_order.specs.Heirs.{mix, IsCommonHeir, IsJoin}
use Rattle.hb_joins.specs.Changes.{IsChanged}

abbrev pub Entries : Type 0
Entries = List (Option StructId)

-- entry a of a row
abbrev pub entry_at : Entries → ℕ → Option StructId
entry_at row a = slice_index_or row a None

-- row b
abbrev pub row_at : List Entries → ℕ → Entries
row_at rows b = slice_index_or rows b []

-- the join of a and b, or nothing where they have no common heir
abbrev pub IsEntry : List Set → ℕ → ℕ → Option StructId → Type 0
IsEntry h a b None = (j : ℕ) → ¬ (IsCommonHeir h a b j)
IsEntry h a b (Some j) = IsJoin h a b j.0

pub record IsRow (h : List Set) (b : ℕ) (row : Entries) : Type 0 where
  pub long : length row ≡ suc b
  pub entries : (a : ℕ) → a ≤ b → IsEntry h a b (entry_at row a)

pub record IsTable (h : List Set) (rows : List Entries) : Type 0 where
  pub long : length rows ≡ length h
  pub each : (b : ℕ) → b < length h → IsRow h b (row_at rows b)

-- the join of a declared structure and of structure n, by whether the set of n holds the other
abbrev pub new_entry : ℕ → Bool → Option StructId
new_entry n inside = if inside then Some (record { 0 = n }) else None

-- the row of a new structure with the set x
pub record IsNewRow (h : List Set) (x : Set) (row : Entries) : Type 0 where
  pub long : length row ≡ suc (length h)
  pub earlier : (a : ℕ) → a < length h → entry_at row a ≡ new_entry (length h) (is_subset (mix h a) x)
  pub itself : entry_at row (length h) ≡ Some (record { 0 = length h })

-- an entry after a new structure: a join stays, and where there was none it is the new structure, where
-- that is an heir of both
abbrev pub filled : Option StructId → Option StructId → Option StructId → Option StructId
filled (Some j) left right = Some j
filled None None right = None
filled None (Some i) right = right

-- each entry of row b after a new structure with the row `new`
abbrev pub IsFilled : Entries → ℕ → Entries → Entries → Type 0
IsFilled new b old row = IsChanged (λ a was is. is ≡ filled was (entry_at new a) (entry_at new b)) None old row (length old)

-- an entry before structure n: what is from n on becomes nothing
abbrev pub kept : ℕ → Option StructId → Option StructId
kept n None = None
kept n (Some j) = if nat_lt j.0 n then Some j else None

-- each entry of a row before structure n
abbrev pub IsCut : ℕ → Entries → Entries → Type 0
IsCut n old row = IsChanged (λ a was is. is ≡ kept n was) None old row (length old)
