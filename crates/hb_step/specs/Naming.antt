-- Why a name can't be declared.
use Rattle.std.specs.Prelude.{◌≡◌, ℕ, ◌⊎◌, Bool, true, List, [], ◌∷◌, Option, None, Some, slice_get}
use Rattle.hb_base.specs.declared.name_id.NameId.{NameId}
use Rattle.hb_base.specs.declared.span.Span.{Span}
use Rattle.hb_calculus.specs.Declarations.{Decl, names, IsIn}
use Rattle.hb_env.specs.declared.refusal.Refusal.{Refusal}
use Rattle.hb_env.specs.declared.refusal.What.TheVariants.{ReservedName, Redeclared}
use Rattle.hb_hier.specs.Hierarchy.{Hierarchy, known_as}
use Rattle.hb_hier.specs.declared.known.Known.{Known}
use Rattle.hb_hier.specs.declared.known.Known.TheVariants.{Mixin, Factory, Structure}
use Rattle.hb_step.specs.Reserved.{is_kept}

-- the name is kept, and the refusal says so, at its place
pub record IsReserved (kept : List ℕ → Bool) (N : List (List ℕ)) (n : NameId) (s : Span) (r : Refusal) : Type 0 where
  pub place : r.span ≡ s
  pub what : r.what ≡ ReservedName n
  pub kept_is : is_kept kept (slice_get N n.0) ≡ true

-- the name is a structure's
abbrev pub IsKnownStructure : Option Known → Type 0
IsKnownStructure (Some (Structure s)) = Unit {0}
IsKnownStructure (Some (Mixin m)) = ⊥
IsKnownStructure (Some (Factory f)) = ⊥
IsKnownStructure None = ⊥

abbrev pub IsStructure : Hierarchy → NameId → Type 0
IsStructure h n = IsKnownStructure (known_as h n)

-- the name is declared, or a structure's
abbrev pub IsTaken : List Decl → Hierarchy → NameId → Type 0
IsTaken E h n = IsIn n.0 (names E) ⊎ IsStructure h n

-- the refusal says that the name is taken, at its place
pub record IsRedeclared (E : List Decl) (h : Hierarchy) (n : NameId) (s : Span) (r : Refusal) : Type 0 where
  pub place : r.span ≡ s
  pub what : r.what ≡ Redeclared n
  pub taken : IsTaken E h n

-- n stands at two places of the list
abbrev pub IsTwice : ℕ → List ℕ → Type 0
IsTwice n [] = ⊥
IsTwice n (m ∷ ms) = ((n ≡ m) × IsIn n ms) ⊎ IsTwice n ms

-- the name is one of the declarations', and is taken, or among those made before, or stands twice among theirs
pub record IsUnfit (E : List Decl) (h : Hierarchy) (made : List ℕ) (ds : List Decl) (n : NameId) : Type 0 where
  pub theirs : IsIn n.0 (names ds)
  pub cause : IsTaken E h n ⊎ IsIn n.0 made ⊎ IsTwice n.0 (names ds)
