-- The least level of sorts.
use Rattle.std.proofs.Common.{◌≡◌, ℕ, zero, suc, ◌≤◌, List, [], ◌∷◌, arith}
use Rattle.std.specs.Prelude.{Some, slice_get}
use Rattle.std.proofs.lemmas.Option.{none-some}
use Rattle.hb_tree.specs.declared.leaves.Sort.{Sort}
use Rattle.hb_tree.specs.declared.leaves.Sort.TheVariants.{Prop, Level}
use Rattle.hb_calculus.specs.Conversion.{IsSortBelow}
use Rattle.hb_calculus.specs.Inference.{least_level}
use Rattle.hb_calculus.proofs.Options.{Some-injective}
use Rattle.std.proofs.Common.{subst}

module _ (k : ℕ) where
  below-first : (s : Sort) (ss : List Sort) → least_level (s ∷ ss) ≤ k → IsSortBelow s (Level k)
  below-first Prop ss h = tt
  below-first (Level j) ss h = omega arith

  below-rest : (s : Sort) (ss : List Sort) → least_level (s ∷ ss) ≤ k → least_level ss ≤ k
  below-rest Prop ss h = h
  below-rest (Level j) ss h = omega arith

  pub level-holds : (ss : List Sort) (i : ℕ) (s : Sort) → slice_get ss i ≡ Some s → least_level ss ≤ k → IsSortBelow s (Level k)
  level-holds [] i s e h = absurd (none-some s e)
  level-holds (x ∷ ss) zero s e h = subst (λ y. IsSortBelow y (Level k)) (Some-injective x s e) (below-first x ss h)
  level-holds (x ∷ ss) (suc i) s e h = level-holds ss i s e (below-rest x ss h)

  level-step : (s : Sort) (ss : List Sort) → IsSortBelow s (Level k) → least_level ss ≤ k → least_level (s ∷ ss) ≤ k
  level-step Prop ss h g = g
  level-step (Level j) ss h g = omega arith

  pub level-least : (ss : List Sort) → ((i : ℕ) (s : Sort) → slice_get ss i ≡ Some s → IsSortBelow s (Level k)) → least_level ss ≤ k
  level-least [] h = omega arith
  level-least (s ∷ ss) h = level-step s ss (h zero s (λ i. Some s)) (level-least ss (λ i x e. h (suc i) x e))
