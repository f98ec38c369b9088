-- Faults of parts as faults of the whole.
use Rattle.std.proofs.Common.{◌≡◌, ◌∙◌, ℕ, ◌+◌, List, ◌∷◌, length, sym, arith}
use Rattle.std.specs.Prelude.{Result, Ok, Err, IfErr}
use Rattle.hb_tree.specs.Tree.{Tree, pi, lam, app, proj}
use Rattle.hb_tree.specs.declared.leaves.RecId.{RecId}
use Rattle.hb_tree.specs.declared.leaves.Sort.{Sort}
use Rattle.hb_term.specs.Meaning.{tree}
use Rattle.hb_term.specs.declared.scoped.Scoped.{Scoped}
use Rattle.hb_calculus.specs.Declarations.{Decl}
use Rattle.hb_calculus.specs.Budget.{Budget}
use Rattle.hb_calculus.specs.Inference.{Cause, IsSort, IsProduct, IsRecord, not_function, not_sort, not_record, Infers, SortIs, NotType, type_fails, type_sort}
use Rattle.hb_calculus.specs.Inference.{fails_domain, fails_domain_sort, fails_codomain, fails_codomain_sort, fails_binder, fails_binder_sort, fails_body, fails_function, fails_function_product, fails_argument, fails_argument_below, fails_projected, fails_projected_record}
use Rattle.hb_kernel.specs.Places.{type_place}
use Rattle.hb_kernel.specs.Answers.{FailsAt}
use Rattle.hb_kernel.specs.Asks.{NotOfFormAt, NotBelowAt, NotTypeAt, Applies}
use Rattle.hb_kernel.specs.Faults.{FaultOf}
use Rattle.hb_kernel.specs.declared.fault.Fault.{Fault}
use Rattle.hb_kernel.proofs.FaultLemmas.{map-fault}

module _ (E : List Decl) (L : Budget) (G : List Tree) where
  -- a sort's fault doesn't look at the environment
  pub leaf-fault : (r : Result Scoped Fault) (P : List Decl → Budget → Cause → ℕ → Type 0) → IfErr r (FaultOf (λ c n. (F : List Decl) (M : Budget) → P F M c n)) → IfErr r (FaultOf (P E L))
  leaf-fault (Ok x) P h = tt
  leaf-fault (Err e) P h = map-fault (λ c n. (F : List Decl) (M : Budget) → P F M c n) (P E L) (λ c n f. f E L) e h

  -- types
  pub type-fault : (t : Tree) (e : Fault) → FaultOf (FailsAt E L G t) e → FaultOf (NotTypeAt E L G t) e
  type-fault t e h = map-fault (FailsAt E L G t) (NotTypeAt E L G t) (λ c n f. (type_fails f.0, f.1)) e h

  pub sort-fault : (t : Tree) (ty : Scoped) (e : Fault) → Infers E L G t (tree ty.term) → ty.depth ≡ length G → FaultOf (NotOfFormAt E L IsSort not_sort ty) e → FaultOf (NotTypeAt E L G t) e
  sort-fault t ty e p d h =
      map-fault (NotOfFormAt E L IsSort not_sort ty) (NotTypeAt E L G t) (λ c n f. (type_sort p f.0, sym (f.1 ∙ d))) e h

  -- products and functions
  domain-at : {a b : Tree} {c : Cause} (n : ℕ) (f : NotType E L G a c) → type_place f ≡ n → FailsAt E L G (pi a b) c n
  domain-at n (type_fails f) k = (fails_domain f, k)
  domain-at n (type_sort p q) k = (fails_domain_sort p q, k)

  pub domain-fault : (a b : Tree) (e : Fault) → FaultOf (NotTypeAt E L G a) e → FaultOf (FailsAt E L G (pi a b)) e
  domain-fault a b e h = map-fault (NotTypeAt E L G a) (FailsAt E L G (pi a b)) (λ c n f. domain-at n f.0 f.1) e h

  binder-at : {a b : Tree} {c : Cause} (n : ℕ) (f : NotType E L G a c) → type_place f ≡ n → FailsAt E L G (lam a b) c n
  binder-at n (type_fails f) k = (fails_binder f, k)
  binder-at n (type_sort p q) k = (fails_binder_sort p q, k)

  pub binder-fault : (a b : Tree) (e : Fault) → FaultOf (NotTypeAt E L G a) e → FaultOf (FailsAt E L G (lam a b)) e
  binder-fault a b e h = map-fault (NotTypeAt E L G a) (FailsAt E L G (lam a b)) (λ c n f. binder-at n f.0 f.1) e h

  codomain-at : {a b : Tree} {s : Sort} {c : Cause} (n : ℕ) → SortIs E L G a s → (f : NotType E L (a ∷ G) b c) → type_place f ≡ n → FailsAt E L G (pi a b) c n
  codomain-at n p (type_fails f) k = (fails_codomain p.infers p.head f, k)
  codomain-at n p (type_sort q r) k = (fails_codomain_sort p.infers p.head q r, (let h : length G + 1 ≡ n = omega arith in h))

  pub codomain-fault : (a b : Tree) (s : Sort) (e : Fault) → SortIs E L G a s → FaultOf (NotTypeAt E L (a ∷ G) b) e → FaultOf (FailsAt E L G (pi a b)) e
  codomain-fault a b s e p h =
      map-fault (NotTypeAt E L (a ∷ G) b) (FailsAt E L G (pi a b)) (λ c n f. codomain-at n p f.0 f.1) e h

  pub body-fault : (a b : Tree) (s : Sort) (e : Fault) → SortIs E L G a s → FaultOf (FailsAt E L (a ∷ G) b) e → FaultOf (FailsAt E L G (lam a b)) e
  body-fault a b s e p h =
      map-fault (FailsAt E L (a ∷ G) b) (FailsAt E L G (lam a b)) (λ c n f. (fails_body p.infers p.head f.0, f.1)) e h

  -- applications
  pub function-fault : (f : Tree) (e : Fault) → FaultOf (FailsAt E L G f) e → FaultOf (λ c n. (x : Tree) → FailsAt E L G (app f x) c n) e
  function-fault f e h =
      map-fault (FailsAt E L G f) (λ c n. (x : Tree) → FailsAt E L G (app f x) c n) (λ c n g x. (fails_function g.0, g.1)) e h

  pub product-fault : (f : Tree) (ty : Scoped) (e : Fault) → Infers E L G f (tree ty.term) → ty.depth ≡ length G → FaultOf (NotOfFormAt E L IsProduct not_function ty) e → FaultOf (λ c n. (x : Tree) → FailsAt E L G (app f x) c n) e
  product-fault f ty e p d h =
      map-fault (NotOfFormAt E L IsProduct not_function ty) (λ c n. (x : Tree) → FailsAt E L G (app f x) c n)
      (λ c n g x. (fails_function_product p g.0, sym (g.1 ∙ d)))
      e h

  pub argument-fault : (f x a b : Tree) (e : Fault) → Applies E L G f a b → FaultOf (FailsAt E L G x) e → FaultOf (FailsAt E L G (app f x)) e
  argument-fault f x a b e p h =
      map-fault (FailsAt E L G x) (FailsAt E L G (app f x)) (λ c n g. (fails_argument p.1 p.2 g.0, g.1)) e h

  pub below-fault : (f x b : Tree) (ty dom : Scoped) (e : Fault) → Applies E L G f (tree dom.term) b → Infers E L G x (tree ty.term) → ty.depth ≡ length G → FaultOf (NotBelowAt E L ty dom) e → FaultOf (FailsAt E L G (app f x)) e
  below-fault f x b ty dom e p q d h =
      map-fault (NotBelowAt E L ty dom) (FailsAt E L G (app f x)) (λ c n g. (fails_argument_below p.1 p.2 q g.0, sym (g.1 ∙ d))) e h

  -- projections
  pub projected-fault : (r : RecId) (i : ℕ) (t : Tree) (e : Fault) → FaultOf (FailsAt E L G t) e → FaultOf (FailsAt E L G (proj r i t)) e
  projected-fault r i t e h =
      map-fault (FailsAt E L G t) (FailsAt E L G (proj r i t)) (λ c n g. (fails_projected g.0, g.1)) e h

  pub record-fault : (r : RecId) (i : ℕ) (t : Tree) (ty : Scoped) (e : Fault) → Infers E L G t (tree ty.term) → ty.depth ≡ length G → FaultOf (NotOfFormAt E L (IsRecord E r.0) not_record ty) e → FaultOf (FailsAt E L G (proj r i t)) e
  record-fault r i t ty e p d h =
      map-fault (NotOfFormAt E L (IsRecord E r.0) not_record ty) (FailsAt E L G (proj r i t))
      (λ c n g. (fails_projected_record p g.0, sym (g.1 ∙ d)))
      e h
