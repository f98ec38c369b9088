-- The structures that hold a mixin.
use Rattle.std.specs.Prelude.{ℕ, zero, suc, if◌then◌else◌, List, [], ◌∷◌, ◌++◌, length}
use Rattle.hb_sets.specs.Set.{Set, contains}
use Rattle.hb_order.specs.declared.ids.StructId.{StructId}
use Rattle.hb_order.specs.Heirs.{mix}

-- those of the first n structures whose set has m, in the order of declaration
abbrev pub structures_below : List Set → ℕ → ℕ → List StructId
structures_below h m zero = []
structures_below h m (suc n) = structures_below h m n ++ (if contains (mix h n) m then record { 0 = n } ∷ [] else [])

-- the structures whose set has m, in the order of declaration
abbrev pub structures_with : List Set → ℕ → List StructId
structures_with h m = structures_below h m (length h)
