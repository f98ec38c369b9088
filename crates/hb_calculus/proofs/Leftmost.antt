-- The rule at the leftmost outermost place.
use Rattle.std.proofs.Common.{◌≡◌, sym, subst, ℕ}
use Rattle.std.specs.Prelude.{Option, Some, option_map}
use Rattle.std.specs.Option.{option_or}
use Rattle.hb_tree.specs.Tree.{Tree, sort, rel, pi, lam, app, const, proj, hole}
use Rattle.hb_tree.specs.declared.leaves.RecId.{RecId}
use Rattle.hb_calculus.specs.Contraction.{leftmost}
use Rattle.hb_calculus.proofs.Options.{one-of, either-of, of-mapped, IsValue, or-value, or-value_first, map-value}

-- a relation that holds of what the rule gives, and is kept by every term former, holds of what it gives
-- at the leftmost outermost place
pub record Kept (rule : Tree → Option Tree) (R : Tree → Tree → Type 0) : Type 0 where
  pub by_rule : (t u : Tree) → rule t ≡ Some u → R t u
  pub domain : (a a' b : Tree) → R a a' → R (pi a b) (pi a' b)
  pub codomain : (a b b' : Tree) → R b b' → R (pi a b) (pi a b')
  pub binder : (a a' b : Tree) → R a a' → R (lam a b) (lam a' b)
  pub body : (a b b' : Tree) → R b b' → R (lam a b) (lam a b')
  pub function : (f f' a : Tree) → R f f' → R (app f a) (app f' a)
  pub argument : (f a a' : Tree) → R a a' → R (app f a) (app f a')
  pub projected : (r : RecId) (i : ℕ) (t t' : Tree) → R t t' → R (proj r i t) (proj r i t')

module _ (rule : Tree → Option Tree) (R : Tree → Tree → Type 0) (k : Kept rule R) where
  along : (t u v : Tree) → u ≡ v → R t v → R t u
  along t u v e h = subst (λ x. R t x) (sym e) h

  pub leftmost-kept : (t u : Tree) → leftmost rule t ≡ Some u → R t u
  leftmost-kept (sort s) u h = k.by_rule _ u h
  leftmost-kept (rel n) u h = k.by_rule _ u h
  leftmost-kept (pi a b) u h =
      one-of
      (rule (pi a b)) (λ x. pi x b) (leftmost rule a) (option_map (λ x. pi a x) (leftmost rule b)) u
      (k.by_rule _ u)
      (λ x e p. along _ u _ p (k.domain a x b (leftmost-kept a x e)))
      (λ m. of-mapped (λ x. pi a x) (leftmost rule b) u (λ x e p. along _ u _ p (k.codomain a b x (leftmost-kept b x e))) m)
      h
  leftmost-kept (lam a b) u h =
      one-of
      (rule (lam a b)) (λ x. lam x b) (leftmost rule a) (option_map (λ x. lam a x) (leftmost rule b)) u
      (k.by_rule _ u)
      (λ x e p. along _ u _ p (k.binder a x b (leftmost-kept a x e)))
      (λ m. of-mapped (λ x. lam a x) (leftmost rule b) u (λ x e p. along _ u _ p (k.body a b x (leftmost-kept b x e))) m)
      h
  leftmost-kept (app f a) u h =
      one-of
      (rule (app f a)) (λ x. app x a) (leftmost rule f) (option_map (λ x. app f x) (leftmost rule a)) u
      (k.by_rule _ u)
      (λ x e p. along _ u _ p (k.function f x a (leftmost-kept f x e)))
      (λ m. of-mapped (λ x. app f x) (leftmost rule a) u (λ x e p. along _ u _ p (k.argument f a x (leftmost-kept a x e))) m)
      h
  leftmost-kept (const c) u h = k.by_rule _ u h
  leftmost-kept (proj r i t) u h =
      either-of
      (rule (proj r i t)) (option_map (λ x. proj r i x) (leftmost rule t)) u
      (k.by_rule _ u)
      (λ m. of-mapped (λ x. proj r i x) (leftmost rule t) u (λ x e p. along _ u _ p (k.projected r i t x (leftmost-kept t x e))) m)
      h
  leftmost-kept (hole n) u h = k.by_rule _ u h

-- where the rule gives something at a place, there is a leftmost outermost one
module _ (rule : Tree → Option Tree) where
  pub leftmost-here : (t : Tree) → IsValue (rule t) → IsValue (leftmost rule t)
  leftmost-here (sort s) h = h
  leftmost-here (rel n) h = h
  leftmost-here (pi a b) h = or-value_first (rule (pi a b)) _ h
  leftmost-here (lam a b) h = or-value_first (rule (lam a b)) _ h
  leftmost-here (app f a) h = or-value_first (rule (app f a)) _ h
  leftmost-here (const c) h = h
  leftmost-here (proj r i t) h = or-value_first (rule (proj r i t)) _ h
  leftmost-here (hole n) h = h

  first-part : (p : Option Tree) (f : Tree → Tree) (q z : Option Tree) → IsValue q → IsValue (option_or p (option_or (option_map f q) z))
  first-part p f q z h = or-value p _ (or-value_first (option_map f q) z (map-value f q h))

  second-part : (p : Option Tree) (z : Option Tree) (g : Tree → Tree) (q : Option Tree) → IsValue q → IsValue (option_or p (option_or z (option_map g q)))
  second-part p z g q h = or-value p _ (or-value z _ (map-value g q h))

  pub leftmost-domain : (a b : Tree) → IsValue (leftmost rule a) → IsValue (leftmost rule (pi a b))
  leftmost-domain a b h = first-part (rule (pi a b)) (λ x. pi x b) (leftmost rule a) _ h

  pub leftmost-codomain : (a b : Tree) → IsValue (leftmost rule b) → IsValue (leftmost rule (pi a b))
  leftmost-codomain a b h = second-part (rule (pi a b)) _ (λ x. pi a x) (leftmost rule b) h

  pub leftmost-binder : (a b : Tree) → IsValue (leftmost rule a) → IsValue (leftmost rule (lam a b))
  leftmost-binder a b h = first-part (rule (lam a b)) (λ x. lam x b) (leftmost rule a) _ h

  pub leftmost-body : (a b : Tree) → IsValue (leftmost rule b) → IsValue (leftmost rule (lam a b))
  leftmost-body a b h = second-part (rule (lam a b)) _ (λ x. lam a x) (leftmost rule b) h

  pub leftmost-function : (f a : Tree) → IsValue (leftmost rule f) → IsValue (leftmost rule (app f a))
  leftmost-function f a h = first-part (rule (app f a)) (λ x. app x a) (leftmost rule f) _ h

  pub leftmost-argument : (f a : Tree) → IsValue (leftmost rule a) → IsValue (leftmost rule (app f a))
  leftmost-argument f a h = second-part (rule (app f a)) _ (λ x. app f x) (leftmost rule a) h

  pub leftmost-projected : (r : RecId) (i : ℕ) (t : Tree) → IsValue (leftmost rule t) → IsValue (leftmost rule (proj r i t))
  leftmost-projected r i t h = or-value (rule (proj r i t)) _ (map-value (λ x. proj r i x) (leftmost rule t) h)
