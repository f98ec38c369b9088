-- Why what is written isn't declared.
use Rattle.std.proofs.Common.{◌≡◌, ℕ, List, subst, ⊎_elim}
use Rattle.hb_base.specs.declared.name_id.NameId.{NameId}
use Rattle.hb_base.specs.declared.span.Span.{Span}
use Rattle.hb_calculus.specs.Budget.{Budget}
use Rattle.hb_calculus.specs.Declarations.{Decl}
use Rattle.hb_env.specs.declared.refusal.Refusal.{Refusal}
use Rattle.hb_hier.specs.Hierarchy.{Hierarchy}
use Rattle.hb_mixin.specs.Refusing.{Family, HasNoNumber, NotDeclared, no_memory, no_number}
use Rattle.hb_mixin.specs.Steps.{OrNoMemory}

-- a name of a field gets no number
pub number_refused : (N : List (List ℕ)) (E : List Decl) (h : Hierarchy) (L : Budget) (f : Family) (n : NameId) (items ss ts : List NameId) (s : Span) (r : Refusal) → ss ≡ ts → OrNoMemory (HasNoNumber N n ss s) r → NotDeclared N E h L f n items ts s r
number_refused N E h L f n items ss ts s r e c = ⊎_elim (λ m. no_memory m) (λ w. no_number (subst (λ l. HasNoNumber N n l s r) e w)) c

-- the same cause over what equals the hierarchy, the items and the short names
pub declared_refused : (N : List (List ℕ)) (E : List Decl) (g h : Hierarchy) (L : Budget) (f : Family) (n : NameId) (is js ss ts : List NameId) (s : Span) (r : Refusal) → g ≡ h → is ≡ js → ss ≡ ts → NotDeclared N E g L f n is ss s r → NotDeclared N E h L f n js ts s r
declared_refused N E g h L f n is js ss ts s r e p q d =
    subst (λ l. NotDeclared N E h L f n js l s r) q (subst (λ l. NotDeclared N E h L f n l ss s r) p (subst (λ i. NotDeclared N E i L f n is ss s r) e d))
