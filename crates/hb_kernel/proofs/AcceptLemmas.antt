-- The asks of a term against its type, and of a declaration.
use Rattle.std.proofs.Common.{◌≡◌, ◌∙◌, ℕ, ◌≢◌, List, [], length, inl, inr, sym, subst, ap}
use Rattle.std.specs.Prelude.{Result, Ok, Err, IfErr}
use Rattle.hb_tree.specs.Tree.{Tree, sort}
use Rattle.hb_tree.specs.declared.leaves.Sort.{Sort}
use Rattle.hb_tree.specs.declared.leaves.Sort.TheVariants.{Level}
use Rattle.hb_term.specs.Meaning.{tree}
use Rattle.hb_term.specs.declared.scoped.Scoped.{Scoped}
use Rattle.hb_calculus.specs.Declarations.{Decl, an_axiom, a_definition, a_record, field_types}
use Rattle.hb_calculus.specs.Budget.{Budget}
use Rattle.hb_calculus.specs.Inference.{Cause, not_convertible, Infers, SortIs, NotBelow, check_type, check_term, check_below, Checks, Accepts, accepts_axiom, accepts_definition, accepts_record, refuses_axiom, refuses_definition, refuses_param, refuses_field, refuses_level}
use Rattle.hb_kernel.specs.Answers.{FailsAt, NotCheckedAt, RefusesAt}
use Rattle.hb_kernel.specs.Asks.{NotTypeAt, NotBelowAt}
use Rattle.hb_kernel.specs.Faults.{FaultOf}
use Rattle.hb_kernel.specs.Levels.{TelescopeLevelIs, NotTelescopeAt}
use Rattle.hb_kernel.specs.declared.fault.Fault.{Fault}
use Rattle.hb_kernel.proofs.FaultLemmas.{map-fault}

module _ (E : List Decl) (L : Budget) where
  pub check-type-fault : (G : List Tree) (t u : Tree) (e : Fault) → FaultOf (NotTypeAt E L G u) e → FaultOf (NotCheckedAt E L G t u) e
  check-type-fault G t u e h = map-fault (NotTypeAt E L G u) (NotCheckedAt E L G t u) (λ c n f. (check_type f.0, f.1)) e h

  pub check-term-fault : (G : List Tree) (t u : Tree) (s : Sort) (e : Fault) → SortIs E L G u s → FaultOf (FailsAt E L G t) e → FaultOf (NotCheckedAt E L G t u) e
  check-term-fault G t u s e p h =
      map-fault (FailsAt E L G t) (NotCheckedAt E L G t u) (λ c n f. (check_term p f.0, f.1)) e h

  pub check-below-fault : (G : List Tree) (t u : Tree) (s : Sort) (ty wanted : Scoped) (e : Fault) → SortIs E L G u s → Infers E L G t (tree ty.term) → ty.depth ≡ length G → tree wanted.term ≡ u → FaultOf (NotBelowAt E L ty wanted) e → FaultOf (NotCheckedAt E L G t u) e
  check-below-fault G t u s ty wanted e p q d k h =
      map-fault (NotBelowAt E L ty wanted) (NotCheckedAt E L G t u)
      (λ c n f. (check_below p q (subst (λ x. NotBelow E L (tree ty.term) x c) k f.0), sym (f.1 ∙ d)))
      e h

  telescope-refused : (m n k : ℕ) (ps : List Tree) (fs : List (ℕ × Tree)) (c : Cause) (i : ℕ) → NotTelescopeAt E L [] ps (field_types fs) c i → RefusesAt E L (a_record n m ps k fs) c i
  telescope-refused m n k ps fs c i (inl f) = (refuses_param f.0, f.1)
  telescope-refused m n k ps fs c i (inr f) = (refuses_field f.0 f.1 f.2.0, f.2.1)

  pub record-fault : (k : ℕ) (ps : List Tree) (fs : List (ℕ × Tree)) (e : Fault) → FaultOf (NotTelescopeAt E L [] ps (field_types fs)) e → FaultOf (λ c i. (n m : ℕ) → RefusesAt E L (a_record n m ps k fs) c i) e
  record-fault k ps fs e h =
      map-fault (NotTelescopeAt E L [] ps (field_types fs)) (λ c i. (n m : ℕ) → RefusesAt E L (a_record n m ps k fs) c i)
      (λ c i f n m. telescope-refused m n k ps fs c i f)
      e h

  pub record-accepted : (k l : ℕ) (ps : List Tree) (fs : List (ℕ × Tree)) → TelescopeLevelIs E L [] ps (field_types fs) l → l ≡ k → (n m : ℕ) → Accepts E L (a_record n m ps k fs)
  record-accepted k l ps fs h e n m = accepts_record h.0 h.2.0 h.1 h.2.1 (sym e ∙ h.2.2)

  pub level-refused : (k l : ℕ) (ps : List Tree) (fs : List (ℕ × Tree)) (x y : Tree) (i : ℕ) → i ≡ 0 → TelescopeLevelIs E L [] ps (field_types fs) l → l ≢ k → x ≡ sort (Level l) → y ≡ sort (Level k) → (n m : ℕ) → RefusesAt E L (a_record n m ps k fs) (not_convertible x y) i
  level-refused k l ps fs x y i z h d e g n m = (
    refuses_level h.0 h.2.0 h.1 h.2.1 (λ p. d (h.2.2 ∙ sym p)) ((λ i. not_convertible (e i) (g i)) ∙ ap (λ j. not_convertible (sort (Level j)) (sort (Level k))) h.2.2),
    sym z,
  )

  -- declarations
  pub axiom-accepted : (d : Decl) (n : ℕ) (t : Tree) (s : Sort) → d ≡ an_axiom n t → SortIs E L [] t s → Accepts E L d
  axiom-accepted d n t s e h = subst (λ (x : Decl). Accepts E L x) (sym e) (accepts_axiom h)

  pub axiom-fault : (d : Decl) (n : ℕ) (t : Tree) (e : Fault) → d ≡ an_axiom n t → FaultOf (NotTypeAt E L [] t) e → FaultOf (RefusesAt E L d) e
  axiom-fault d n t e k h =
      subst (λ (x : Decl). FaultOf (RefusesAt E L x) e) (sym k)
      (map-fault (NotTypeAt E L [] t) (RefusesAt E L (an_axiom n t)) (λ c i f. (refuses_axiom f.0, f.1)) e h)

  pub definition-accepted : (d : Decl) (n : ℕ) (t b : Tree) → d ≡ a_definition n t b → Checks E L [] b t → Accepts E L d
  definition-accepted d n t b e h = subst (λ (x : Decl). Accepts E L x) (sym e) (accepts_definition h)

  pub definition-fault : (d : Decl) (n : ℕ) (t b : Tree) (e : Fault) → d ≡ a_definition n t b → FaultOf (NotCheckedAt E L [] b t) e → FaultOf (RefusesAt E L d) e
  definition-fault d n t b e k h =
      subst (λ (x : Decl). FaultOf (RefusesAt E L x) e) (sym k)
      (map-fault (NotCheckedAt E L [] b t) (RefusesAt E L (a_definition n t b)) (λ c i f. (refuses_definition f.0, f.1)) e h)

  pub record-answer : (d : Decl) (n m k : ℕ) (ps : List Tree) (fs : List (ℕ × Tree)) (r : Result (Unit {0}) Fault) → d ≡ a_record n m ps k fs → IfErr r (FaultOf (λ c i. (n m : ℕ) → RefusesAt E L (a_record n m ps k fs) c i)) → IfErr r (FaultOf (RefusesAt E L d))
  record-answer d n m k ps fs (Ok x) e h = tt
  record-answer d n m k ps fs (Err f) e h =
      subst (λ (x : Decl). FaultOf (RefusesAt E L x) f) (sym e)
      (map-fault (λ c i. (n m : ℕ) → RefusesAt E L (a_record n m ps k fs) c i) (RefusesAt E L (a_record n m ps k fs)) (λ c i g. g n m) f h)
