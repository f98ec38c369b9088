-- Why the entry of a plain command isn't loaded, and where that is said.
use Rattle.std.specs.Prelude.{◌≡◌, ℕ, List, [], ◌∷◌, length, None}
use Rattle.hb_base.specs.declared.count.Count.{Count}
use Rattle.hb_base.specs.declared.name_id.NameId.{NameId}
use Rattle.hb_calculus.specs.Budget.{Budget}
use Rattle.hb_calculus.specs.Declarations.{Decl, names_of}
use Rattle.hb_env.specs.declared.entry.Head.{Head}
use Rattle.hb_env.specs.declared.entry.Head.TheVariants as heads
use Rattle.hb_env.specs.declared.entry.Places.{Places}
use Rattle.hb_env.specs.declared.refusal.Refusal.{Refusal}
use Rattle.hb_env.specs.declared.refusal.What.{What}
use Rattle.hb_env.specs.declared.refusal.What.TheVariants.{BadLibrary, NoMemory, NotYet, TooMany}
use Rattle.hb_step.specs.Adding.{Stops}
use Rattle.hb_step.specs.Counting.{ComeToPass}
use Rattle.hb_world.specs.Worlds.{Background}
use Rattle.hb_plain.specs.Declaring.{IsFree, IsAxiomOf, IsDefinitionOf, IsOne}
use Rattle.hb_plain.specs.Refusing.{IsSectionOpen, NotFree}

-- the library is bad at this byte of the entry's file
abbrev pub IsBadAt : Places → ℕ → Refusal → Type 0
IsBadAt p at r = r ≡ record { span = record { file = p.span.file; from = at; to = at }; what = BadLibrary }

-- the declarations would pass a count, or the kernel doesn't add one of them, or memory is wanting
pub data NotAll (E : List Decl) (L : Budget) (ds : List Decl) : What → Type 0 where
  too_many : {w : What} {c : Count} → ComeToPass E ds c → w ≡ TooMany c → NotAll E L ds w
  stops : {w : What} → Stops L E ds w → NotAll E L ds w
  no_memory : {w : What} → w ≡ NoMemory → NotAll E L ds w

-- why an entry isn't loaded whose declaration is to be such, for some name
pub data NotLoaded (E : List Decl) (w : Background) (L : Budget) (of : NameId → Decl → Type 0) (ds : List Decl) (p : Places) : Refusal → Type 0 where
  -- not one declaration, at one place
  not_one :
      {r : Refusal} → ¬ ((length ds ≡ 1) × (length p.decls.items ≡ 1)) → IsBadAt p p.count r → NotLoaded E w L of ds p r
  -- not such a declaration
  not_such :
      {r : Refusal} {d : Decl} {at : ℕ} → ds ≡ d ∷ [] → p.decls.items ≡ at ∷ [] → ((n : NameId) → ¬ of n d) → IsBadAt p at r
      → NotLoaded E w L of ds p r
  not_free :
      {r : Refusal} {d : Decl} {n : NameId} → ds ≡ d ∷ [] → names_of d ≡ n.0 ∷ [] → NotFree E w n p.span r
      → NotLoaded E w L of ds p r
  not_added :
      {r : Refusal} {n : NameId} → IsOne (of n) ds → IsFree E w n → r.span ≡ p.span → NotAll E L ds r.what
      → NotLoaded E w L of ds p r

-- an axiom's entry in a section, or one that isn't loaded
pub data NoAxiomEntry (E : List Decl) (w : Background) (L : Budget) (ds : List Decl) (p : Places) : Refusal → Type 0 where
  in_section : {r : Refusal} → IsSectionOpen w p.span r → NoAxiomEntry E w L ds p r
  not_loaded : {r : Refusal} → w.section ≡ None → NotLoaded E w L IsAxiomOf ds p r → NoAxiomEntry E w L ds p r

-- the entry isn't loaded
abbrev pub RefusesEntry : List Decl → Background → Budget → Head → List Decl → Places → Refusal → Type 0
RefusesEntry E w L heads.Core ds p r = (r.span ≡ p.span) × Stops L E ds r.what
RefusesEntry E w L heads.Axiom ds p r = NoAxiomEntry E w L ds p r
RefusesEntry E w L heads.Definition ds p r = NotLoaded E w L (IsDefinitionOf w.section) ds p r
RefusesEntry E w L head ds p r = (r.span ≡ p.span) × (r.what ≡ NotYet)

-- the declarations are those of the head, and their name is free
abbrev pub AreOf : Head → List Decl → Background → List Decl → Type 0
AreOf heads.Core E w ds = Unit {0}
AreOf heads.Axiom E w ds = (w.section ≡ None) × (n : NameId) × IsFree E w n × IsOne (IsAxiomOf n) ds
AreOf heads.Definition E w ds = (n : NameId) × IsFree E w n × IsOne (IsDefinitionOf w.section n) ds
AreOf _ E w ds = ⊥
