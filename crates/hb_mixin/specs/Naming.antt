-- The names of a mixin's or a factory's record.
use Rattle.std.specs.Prelude.{◌≡◌, ℕ, List, [], ◌∷◌, ◌++◌, Some, codes, slice_get}
use Rattle.hb_base.specs.declared.name_id.NameId.{NameId}
use Rattle.hb_calculus.specs.Declarations.{Decl, names_of}

-- the text of the second name is that of the first with the word behind it
abbrev pub IsFollowed : List (List ℕ) → NameId → List ℕ → ℕ → Type 0
IsFollowed N n word m = (t : List ℕ) × (slice_get N n.0 ≡ Some t) × (slice_get N m ≡ Some (t ++ word))

-- m is the name of the maker of n
abbrev pub IsMakerName : List (List ℕ) → NameId → ℕ → Type 0
IsMakerName N n m = IsFollowed N n (codes ".Build") m

-- f is the whole name of the field s of n: a point and the short name behind that of n
abbrev pub IsFieldName : List (List ℕ) → NameId → NameId → ℕ → Type 0
IsFieldName N n s f = (t : List ℕ) × (slice_get N s.0 ≡ Some t) × IsFollowed N n (codes "." ++ t) f

-- the same of fields, in order
abbrev pub AreFieldNames : List (List ℕ) → NameId → List NameId → List ℕ → Type 0
AreFieldNames N n [] [] = Unit {0}
AreFieldNames N n (s ∷ ss) (f ∷ fs) = IsFieldName N n s f × AreFieldNames N n ss fs
AreFieldNames N n [] (f ∷ fs) = ⊥
AreFieldNames N n (s ∷ ss) [] = ⊥

-- the declaration is a record under the name n, whose fields have these short names
pub record IsRecordNamed (N : List (List ℕ)) (n : NameId) (shorts : List NameId) (d : Decl) : Type 0 where
  pub maker : ℕ
  pub fields : List ℕ
  pub names_are : names_of d ≡ n.0 ∷ maker ∷ fields
  pub maker_is : IsMakerName N n maker
  pub fields_are : AreFieldNames N n shorts fields
