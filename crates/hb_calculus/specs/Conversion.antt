-- Conversion and cumulativity (Rocq manual, "Conversion rules", "Subtyping rules").
use Rattle.std.specs.Prelude.{◌≡◌, ℕ, ◌<◌, ◌≤◌, List, ◌++◌, length, Some, slice_get}
use Rattle.hb_tree.specs.Tree.{Tree, sort, rel, pi, lam, app, proj, lift, apply}
use Rattle.hb_tree.specs.declared.leaves.Sort.{Sort}
use Rattle.hb_tree.specs.declared.leaves.Sort.TheVariants.{Prop, Level}
use Rattle.hb_tree.specs.declared.leaves.RecId.{RecId}
use Rattle.hb_calculus.specs.Declarations.{Decl, Record, record_in}
use Rattle.hb_calculus.specs.Telescopes.{maker, projections}
use Rattle.hb_calculus.specs.Step.{Step}

-- the two eta rules, where the term itself is contracted
pub data EtaContracts (E : List Decl) : Tree → Tree → Type 0 where
  -- `fun x : a => t x` is t
  eta : {a b t : Tree} → b ≡ app (lift t 1 0) (rel 0) → EtaContracts E (lam a b) t
  -- a record's maker applied to any parameters and to all projections of t is t, if it has a field
  record_eta :
      {t u : Tree} (r : RecId) {R : Record} (qs : List Tree) → record_in (slice_get E r.0) ≡ Some R
      → length qs ≡ length R.params → 0 < length R.fields
      → u ≡ apply (maker r.0) (qs ++ projections r 0 (length R.fields) t) → EtaContracts E u t

-- the least equivalence that is kept by every term former and holds of steps and of the eta rules
pub data Convertible (E : List Decl) : Tree → Tree → Type 0 where
  same : {t : Tree} → Convertible E t t
  back : {t u : Tree} → Convertible E u t → Convertible E t u
  chain : {t u v : Tree} → Convertible E t u → Convertible E u v → Convertible E t v
  by_step : {t u : Tree} → Step E t u → Convertible E t u
  by_eta : {t u : Tree} → EtaContracts E t u → Convertible E t u
  of_pi : {a a' b b' : Tree} → Convertible E a a' → Convertible E b b' → Convertible E (pi a b) (pi a' b')
  of_lam : {a a' b b' : Tree} → Convertible E a a' → Convertible E b b' → Convertible E (lam a b) (lam a' b')
  of_app : {f f' a a' : Tree} → Convertible E f f' → Convertible E a a' → Convertible E (app f a) (app f' a')
  of_proj : {r : RecId} {i : ℕ} {t t' : Tree} → Convertible E t t' → Convertible E (proj r i t) (proj r i t')

-- Prop is below every sort, and each Type below those of its level and above
abbrev pub IsSortBelow : Sort → Sort → Type 0
IsSortBelow Prop s = Unit {0}
IsSortBelow (Level j) Prop = ⊥
IsSortBelow (Level j) (Level k) = j ≤ k

-- cumulativity: the order of types that has conversion and the order of sorts inside, and keeps the
-- codomains of products with convertible domains
pub data Below (E : List Decl) : Tree → Tree → Type 0 where
  equal : {t u : Tree} → Convertible E t u → Below E t u
  through : {t u v : Tree} → Below E t u → Below E u v → Below E t v
  sorts : {s s' : Sort} → IsSortBelow s s' → Below E (sort s) (sort s')
  codomains : {a a' b b' : Tree} → Convertible E a a' → Below E b b' → Below E (pi a b) (pi a' b')

-- the order of normal forms
abbrev pub Ordered : Tree → Tree → Type 0
Ordered (sort s) (sort s') = IsSortBelow s s'
Ordered (pi a b) (pi a' b') = (a ≡ a') × Ordered b b'
Ordered t u = t ≡ u
