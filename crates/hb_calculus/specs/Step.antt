-- One step of reduction (Rocq manual, "Conversion rules": beta, delta, iota of a primitive projection).
use Rattle.std.specs.Prelude.{◌≡◌, ℕ, false, List, ◌++◌, length, Some, slice_get}
use Rattle.hb_tree.specs.Tree.{Tree, pi, lam, app, const, proj, subst_at, apply}
use Rattle.hb_tree.specs.declared.leaves.ConstId.{ConstId}
use Rattle.hb_tree.specs.declared.leaves.RecId.{RecId}
use Rattle.hb_calculus.specs.Declarations.{Decl, Record, body_in, record_in}
use Rattle.hb_calculus.specs.Telescopes.{maker}

-- the three rules, where the term itself is contracted
pub data Contracts (E : List Decl) : Tree → Tree → Type 0 where
  -- `(fun _ : a => b) v` becomes b with v put in
  beta : {a b v u : Tree} → u ≡ subst_at b v 0 → Contracts E (app (lam a b) v) u
  -- a defined constant becomes its body
  delta : {c : ConstId} {u : Tree} → c.maker ≡ false → body_in (slice_get E c.decl) ≡ Some u → Contracts E (const c) u
  -- field i of a record's maker applied to all its parameters qs and fields fs
  projection :
      {r : RecId} {i : ℕ} {t u : Tree} {R : Record} (qs fs : List Tree) → record_in (slice_get E r.0) ≡ Some R
      → length qs ≡ length R.params → length fs ≡ length R.fields → t ≡ apply (maker r.0) (qs ++ fs)
      → slice_get fs i ≡ Some u → Contracts E (proj r i t) u

-- one step, at any place
pub data Step (E : List Decl) : Tree → Tree → Type 0 where
  here : {t u : Tree} → Contracts E t u → Step E t u
  in_domain : {a a' b : Tree} → Step E a a' → Step E (pi a b) (pi a' b)
  in_codomain : {a b b' : Tree} → Step E b b' → Step E (pi a b) (pi a b')
  in_binder : {a a' b : Tree} → Step E a a' → Step E (lam a b) (lam a' b)
  in_body : {a b b' : Tree} → Step E b b' → Step E (lam a b) (lam a b')
  in_function : {f f' a : Tree} → Step E f f' → Step E (app f a) (app f' a)
  in_argument : {f a a' : Tree} → Step E a a' → Step E (app f a) (app f a')
  in_projected : {r : RecId} {i : ℕ} {t t' : Tree} → Step E t t' → Step E (proj r i t) (proj r i t')

-- any number of steps
pub data Steps (E : List Decl) : Tree → Tree → Type 0 where
  done : {t : Tree} → Steps E t t
  more : {t u v : Tree} → Step E t u → Steps E u v → Steps E t v
