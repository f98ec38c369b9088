-- What axioms and definitions declare.
use Rattle.std.specs.Prelude.{◌≡◌, false, List, [], ◌∷◌, ◌++◌, Option, None, Some, slice_get}
use Rattle.hb_base.specs.declared.name_id.NameId.{NameId}
use Rattle.hb_tree.specs.Tree.{Tree}
use Rattle.hb_calculus.specs.Declarations.{Decl, an_axiom, a_definition}
use Rattle.hb_raw.specs.Sentence.{Act, axiom_of, definition}
use Rattle.hb_world.specs.Worlds.{Opened, Background}
use Rattle.hb_step.specs.Reserved.{is_kept, is_reserved}
use Rattle.hb_step.specs.Naming.{IsTaken}
use Rattle.hb_step.specs.Closing.{IsClosedOver}

-- the name may be declared: it isn't kept for generated ones, and it is new
pub record IsFree (E : List Decl) (w : Background) (n : NameId) : Type 0 where
  pub not_kept : is_kept is_reserved (slice_get w.names n.0) ≡ false
  pub not_taken : ¬ IsTaken E w.hier n

-- the type and the body are closed over the context of the open section, if there is one
abbrev pub IsClosedIn : Option Opened → (t b : Tree) → Type 0
IsClosedIn None t b = Unit {0}
IsClosedIn (Some o) t b = IsClosedOver o.context t b

-- an axiom of this name
abbrev pub IsAxiomOf : NameId → Decl → Type 0
IsAxiomOf n d = (t : Tree) × (d ≡ an_axiom n.0 t)

-- a definition of this name, closed over the context of the open section
abbrev pub IsDefinitionOf : Option Opened → NameId → Decl → Type 0
IsDefinitionOf o n d = (t : Tree) × (b : Tree) × (d ≡ a_definition n.0 t b) × IsClosedIn o t b

-- there is one declaration, and it is such
abbrev pub IsOne : (Decl → Type 0) → List Decl → Type 0
IsOne of ds = (d : Decl) × (ds ≡ d ∷ []) × of d

-- one declaration is added, such a one, and its name was free
pub record AddsOne (E : List Decl) (w : Background) (n : NameId) (of : Decl → Type 0) (E' : List Decl) : Type 0 where
  pub free : IsFree E w n
  pub declaration : Decl
  pub is_such : of declaration
  pub added : E' ≡ E ++ declaration ∷ []

-- what an accepted command declares: an axiom or a definition of its name, and a query nothing
abbrev pub Declares : Act → List Decl → Background → List Decl → Type 0
Declares (axiom_of n ty) E w E' = (w.section ≡ None) × AddsOne E w n.name (IsAxiomOf n.name) E'
Declares (definition n bs ty b) E w E' = AddsOne E w n.name (IsDefinitionOf w.section n.name) E'
Declares _ E w E' = E' ≡ E
