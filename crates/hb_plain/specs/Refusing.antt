-- Why a plain command isn't accepted, and where that is said.
use Rattle.std.specs.Prelude.{◌≡◌, ◌⊎◌, false, List, [], ◌∷◌, Option, None, Some, slice_get}
use Rattle.std.specs.Option.{option_map}
use Rattle.hb_base.specs.declared.count.Count.{Count}
use Rattle.hb_base.specs.declared.name_id.NameId.{NameId}
use Rattle.hb_base.specs.declared.span.Span.{Span}
use Rattle.hb_calculus.specs.Budget.{Budget}
use Rattle.hb_calculus.specs.Declarations.{Decl}
use Rattle.hb_env.specs.declared.refusal.Refusal.{Refusal}
use Rattle.hb_env.specs.declared.refusal.What.TheVariants.{NoMemory, NotYet, SectionOpen, TooMany}
use Rattle.hb_hier.specs.Hierarchy.{Hierarchy}
use Rattle.hb_raw.specs.Preterm.{Preterm, preterm}
use Rattle.hb_raw.specs.Sentence.{Sentence, sentence, axiom_of, definition, join, find}
use Rattle.hb_raw.specs.declared.word.Word.{Word}
use Rattle.hb_step.specs.Adding.{NotAdded}
use Rattle.hb_step.specs.Counting.{ComeToPass}
use Rattle.hb_step.specs.Elaborating.{IsOfElaboration}
use Rattle.hb_step.specs.Naming.{IsReserved, IsRedeclared, IsStructure}
use Rattle.hb_step.specs.Reserved.{is_kept, is_reserved}
use Rattle.hb_world.specs.Worlds.{Background}
use Rattle.hb_plain.specs.Declaring.{IsFree, IsAxiomOf, IsDefinitionOf}
use Rattle.hb_plain.specs.Queries.{IsNoStructure}

-- a section is open, and the refusal says so at its place
pub record IsSectionOpen (w : Background) (s : Span) (r : Refusal) : Type 0 where
  pub place : r.span ≡ s
  pub what : r.what ≡ SectionOpen
  pub inside : ¬ (w.section ≡ None)

-- the name, at its place, is kept for generated ones, or else it is taken
pub data NotFree (E : List Decl) (w : Background) (n : NameId) (s : Span) : Refusal → Type 0 where
  reserved : {r : Refusal} → IsReserved is_reserved w.names n s r → NotFree E w n s r
  redeclared :
      {r : Refusal} → is_kept is_reserved (slice_get w.names n.0) ≡ false → IsRedeclared E w.hier n s r → NotFree E w n s r

-- the declarations would pass a count, which is said at the name; or there is one, and the kernel doesn't add it,
-- which is said at its written type or at its body
pub data NotAddedAt (E : List Decl) (L : Budget) (ds : List Decl) (name ty body : Span) : Refusal → Type 0 where
  too_many :
      {r : Refusal} {c : Count} → ComeToPass E ds c → r.span ≡ name → r.what ≡ TooMany c → NotAddedAt E L ds name ty body r
  kernel_refuses :
      {r : Refusal} {d : Decl} → ds ≡ d ∷ [] → NotAdded E L d r.what → (r.span ≡ ty) ⊎ (r.span ≡ body)
      → NotAddedAt E L ds name ty body r
  no_memory : {r : Refusal} → r.what ≡ NoMemory → NotAddedAt E L ds name ty body r

-- why nothing is declared under a name at its place, by a command whose written type and body stand at these places
-- and make such a declaration
pub data NotDeclared (E : List Decl) (w : Background) (L : Budget) (n : Word) (of : Decl → Type 0) (ty body : Span) : Refusal → Type 0 where
  not_free : {r : Refusal} → NotFree E w n.name n.span r → NotDeclared E w L n of ty body r
  not_elaborated : {r : Refusal} → IsFree E w n.name → IsOfElaboration r.what → NotDeclared E w L n of ty body r
  not_added :
      {r : Refusal} {d : Decl} → IsFree E w n.name → of d → NotAddedAt E L (d ∷ []) n.span ty body r
      → NotDeclared E w L n of ty body r
  out_of_memory : {r : Refusal} → r.what ≡ NoMemory → NotDeclared E w L n of ty body r

-- an axiom in a section, or one that isn't declared
pub data NoAxiom (E : List Decl) (w : Background) (L : Budget) (s : Span) (n : Word) (ty : Span) : Refusal → Type 0 where
  in_section : {r : Refusal} → IsSectionOpen w s r → NoAxiom E w L s n ty r
  not_declared :
      {r : Refusal} → w.section ≡ None → NotDeclared E w L n (IsAxiomOf n.name) ty ty r → NoAxiom E w L s n ty r

-- the first of two names that is no structure
pub data NoJoin (h : Hierarchy) (a b : Word) : Refusal → Type 0 where
  no_left : {r : Refusal} → IsNoStructure h a r → NoJoin h a b r
  no_right : {r : Refusal} → IsStructure h a.name → IsNoStructure h b r → NoJoin h a b r

-- the name is no structure, or elaboration of the type or of its key fails
pub data NotFound (h : Hierarchy) (a : Word) : Refusal → Type 0 where
  no_structure : {r : Refusal} → IsNoStructure h a r → NotFound h a r
  no_key : {r : Refusal} → IsStructure h a.name → IsOfElaboration r.what → NotFound h a r

-- the place of a preterm; that of a written type, or where there is none of the body
abbrev pub place : Preterm → Span
place (preterm s f) = s

abbrev pub type_place : Option Span → Span → Span
type_place None body = body
type_place (Some ty) body = ty

-- the command isn't accepted
abbrev pub Refuses : List Decl → Background → Budget → Sentence → Refusal → Type 0
Refuses E w L (sentence s (axiom_of n ty)) r = NoAxiom E w L s n (place ty) r
Refuses E w L (sentence s (definition n bs ty b)) r =
    NotDeclared E w L n (IsDefinitionOf w.section n.name) (type_place (option_map place ty) (place b)) (place b) r
Refuses E w L (sentence s (join a b)) r = NoJoin w.hier a b r
Refuses E w L (sentence s (find a t)) r = NotFound w.hier a r
Refuses E w L (sentence s act) r = (r.span ≡ s) × (r.what ≡ NotYet)
