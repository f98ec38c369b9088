-- The asks of types, one more in front.
use Rattle.std.proofs.Common.{◌≡◌, ℕ, List, [], ◌∷◌, inl, inr, sym, refl, subst}
use Rattle.hb_tree.specs.Tree.{Tree}
use Rattle.hb_tree.specs.declared.leaves.Sort.{Sort}
use Rattle.hb_calculus.specs.Declarations.{Decl}
use Rattle.hb_calculus.specs.Budget.{Budget}
use Rattle.hb_calculus.specs.Inference.{Cause, SortIs, sorts_end, sorts_next, least_level, types_first, types_later}
use Rattle.hb_kernel.specs.Asks.{NotTypeAt}
use Rattle.hb_kernel.specs.Faults.{FaultOf}
use Rattle.hb_kernel.specs.Levels.{LevelIs, TelescopeLevelIs, NotTypesAt, NotTelescopeAt}
use Rattle.hb_kernel.specs.declared.fault.Fault.{Fault}
use Rattle.hb_kernel.proofs.FaultLemmas.{map-fault}

module _ (E : List Decl) (L : Budget) (G : List Tree) where
  pub first-fault : (ts rest : List Tree) (t : Tree) (e : Fault) → ts ≡ t ∷ rest → FaultOf (NotTypeAt E L G t) e → FaultOf (NotTypesAt E L G ts) e
  first-fault ts rest t e k h =
      subst (λ xs. FaultOf (NotTypesAt E L G xs) e) (sym k)
      (map-fault (NotTypeAt E L G t) (NotTypesAt E L G (t ∷ rest)) (λ c n f. (types_first f.0, f.1)) e h)

  pub later-fault : (ts rest : List Tree) (t : Tree) (s : Sort) (e : Fault) → ts ≡ t ∷ rest → SortIs E L G t s → FaultOf (NotTypesAt E L (t ∷ G) rest) e → FaultOf (NotTypesAt E L G ts) e
  later-fault ts rest t s e k p h =
      subst (λ xs. FaultOf (NotTypesAt E L G xs) e) (sym k)
      (map-fault (NotTypesAt E L (t ∷ G) rest) (NotTypesAt E L G (t ∷ rest)) (λ c n f. (types_later p f.0, f.1)) e h)

  pub level-end : (ts : List Tree) → ts ≡ [] → LevelIs E L G ts 0
  level-end ts k = subst (λ xs. LevelIs E L G xs 0) (sym k) ([], sorts_end, refl)

  pub level-more : (ts rest : List Tree) (t : Tree) (s : Sort) (k n : ℕ) → ts ≡ t ∷ rest → SortIs E L G t s → LevelIs E L (t ∷ G) rest k → ((ss : List Sort) → k ≡ least_level ss → n ≡ least_level (s ∷ ss)) → LevelIs E L G ts n
  level-more ts rest t s k n e p h r =
      subst (λ xs. LevelIs E L G xs n) (sym e) (s ∷ h.0, sorts_next p h.1, r h.0 h.2)

  pub param-fault : (ps rest fs : List Tree) (p : Tree) (e : Fault) → ps ≡ p ∷ rest → FaultOf (NotTypeAt E L G p) e → FaultOf (NotTelescopeAt E L G ps fs) e
  param-fault ps rest fs p e k h =
      map-fault (NotTypesAt E L G ps) (NotTelescopeAt E L G ps fs) (λ c n f. inl f) e (first-fault ps rest p e k h)

  pub field-fault : (ps fs : List Tree) (e : Fault) → ps ≡ [] → FaultOf (NotTypesAt E L G fs) e → FaultOf (NotTelescopeAt E L G ps fs) e
  field-fault ps fs e k h =
      subst (λ xs. FaultOf (NotTelescopeAt E L G xs fs) e) (sym k)
      (map-fault (NotTypesAt E L G fs) (NotTelescopeAt E L G [] fs) (λ c n f. inr ([], sorts_end, f)) e h)

  one-more : (rest fs : List Tree) (p : Tree) (s : Sort) (c : Cause) (n : ℕ) → SortIs E L G p s → NotTelescopeAt E L (p ∷ G) rest fs c n → NotTelescopeAt E L G (p ∷ rest) fs c n
  one-more rest fs p s c n h (inl f) = inl (types_later h f.0, f.1)
  one-more rest fs p s c n h (inr f) = inr (s ∷ f.0, sorts_next h f.1, f.2)

  pub rest-fault : (ps rest fs : List Tree) (p : Tree) (s : Sort) (e : Fault) → ps ≡ p ∷ rest → SortIs E L G p s → FaultOf (NotTelescopeAt E L (p ∷ G) rest fs) e → FaultOf (NotTelescopeAt E L G ps fs) e
  rest-fault ps rest fs p s e k q h =
      subst (λ xs. FaultOf (NotTelescopeAt E L G xs fs) e) (sym k)
      (map-fault (NotTelescopeAt E L (p ∷ G) rest fs) (NotTelescopeAt E L G (p ∷ rest) fs) (λ c n f. one-more rest fs p s c n q f) e h)

  pub telescope-end : (ps fs : List Tree) (k : ℕ) → ps ≡ [] → LevelIs E L G fs k → TelescopeLevelIs E L G ps fs k
  telescope-end ps fs k e h = subst (λ xs. TelescopeLevelIs E L G xs fs k) (sym e) ([], sorts_end, h)

  pub telescope-more : (ps rest fs : List Tree) (p : Tree) (s : Sort) (k : ℕ) → ps ≡ p ∷ rest → SortIs E L G p s → TelescopeLevelIs E L (p ∷ G) rest fs k → TelescopeLevelIs E L G ps fs k
  telescope-more ps rest fs p s k e q h =
      subst (λ xs. TelescopeLevelIs E L G xs fs k) (sym e) (s ∷ h.0, sorts_next q h.1, h.2)
