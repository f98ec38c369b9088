-- The least structure that holds what was asked, found one mixin after another.
use Rattle.std.specs.Prelude.{◌≡◌, ℕ, ◌<◌, Bool, true, false, List, length, Option, None, Some}
use Rattle.hb_sets.specs.Set.{Set, In}
use Rattle.hb_order.specs.declared.ids.StructId.{StructId}
use Rattle.hb_order.specs.Heirs.{IsHeir, IsCommonHeir, IsJoin}
use Rattle.hb_order.specs.Givings.{Giving, Asks}
use Rattle.hb_order.specs.Needs.{IsNeed}
use Rattle.hb_hier.specs.declared.need.Need.{Need}
use Rattle.hb_hier.specs.declared.need.Need.TheVariants.{Nothing, Least, Missing}

-- structure t was asked at place i for a mixin of x below n
abbrev pub AskedBelow : List Giving → Set → ℕ → ℕ → ℕ → Type 0
AskedBelow gs x i n t = (m : ℕ) × (m < n) × In x m × Asks gs m i t

-- k is an heir of all that was asked
abbrev pub HoldsBelow : List Set → List Giving → Set → ℕ → ℕ → ℕ → Type 0
HoldsBelow h gs x i n k = (t : ℕ) → AskedBelow gs x i n t → IsHeir h k t

-- something was asked, and s has the least set that holds it
pub record IsLeastBelow (h : List Set) (gs : List Giving) (x : Set) (i n s : ℕ) : Type 0 where
  pub declared : s < length h
  pub some : (t : ℕ) × AskedBelow gs x i n t
  pub holds : HoldsBelow h gs x i n s
  pub least : (k : ℕ) → k < length h → HoldsBelow h gs x i n k → IsHeir h k s

-- something was asked, and no structure holds it
pub record IsMissingBelow (h : List Set) (gs : List Giving) (x : Set) (i n : ℕ) : Type 0 where
  pub some : (t : ℕ) × AskedBelow gs x i n t
  pub none : (k : ℕ) → k < length h → ¬ (HoldsBelow h gs x i n k)

-- what was found for the mixins of x below n
abbrev pub IsFoundBelow : List Set → List Giving → Set → ℕ → ℕ → Need → Type 0
IsFoundBelow h gs x i n Nothing = (t : ℕ) → ¬ (AskedBelow gs x i n t)
IsFoundBelow h gs x i n (Least s) = IsLeastBelow h gs x i n s.0
IsFoundBelow h gs x i n Missing = IsMissingBelow h gs x i n

-- what was found for all of x
abbrev pub IsFound : List Set → List Giving → Set → ℕ → Need → Type 0
IsFound h gs x i Nothing = IsNeed h gs x i None
IsFound h gs x i (Least s) = IsNeed h gs x i (Some s.0)
IsFound h gs x i Missing = (o : Option ℕ) → ¬ (IsNeed h gs x i o)

-- there is a need at place i
abbrev pub HasNeed : List Set → List Giving → Set → ℕ → Type 0
HasNeed h gs x i = (o : Option ℕ) × IsNeed h gs x i o

-- the need names a declared structure
abbrev pub IsNeedBelow : ℕ → Need → Type 0
IsNeedBelow n Nothing = Unit {0}
IsNeedBelow n (Least s) = s.0 < n
IsNeedBelow n Missing = Unit {0}

-- what is found where structure t is asked too
abbrev pub IsJoined : List Set → StructId → StructId → Need → Type 0
IsJoined h s t Nothing = ⊥
IsJoined h s t (Least j) = IsJoin h s.0 t.0 j.0
IsJoined h s t Missing = (j : ℕ) → ¬ (IsCommonHeir h s.0 t.0 j)

abbrev pub IsFoundAnd : List Set → Need → StructId → Need → Type 0
IsFoundAnd h Nothing t result = result ≡ Least t
IsFoundAnd h (Least s) t result = IsJoined h s t result
IsFoundAnd h Missing t result = result ≡ Missing

-- what is found after a mixin, by whether the set has it and what was asked for it
abbrev pub IsFoundAfter : List Set → Bool → Option ℕ → Need → Need → Type 0
IsFoundAfter h false asked need result = result ≡ need
IsFoundAfter h true None need result = result ≡ need
IsFoundAfter h true (Some t) need result = IsFoundAnd h need (record { 0 = t }) result
