-- Inferred types are types by the typing relation.
use Rattle.std.proofs.Common.{ℕ, ◌≤◌, List, [], ◌∷◌, arith}
use Rattle.hb_tree.specs.Tree.{Tree, sort}
use Rattle.hb_tree.specs.declared.leaves.Sort.{Sort}
use Rattle.hb_tree.specs.declared.leaves.Sort.TheVariants.{Prop, Level}
use Rattle.hb_calculus.specs.Declarations.{Decl}
use Rattle.hb_calculus.specs.Conversion.{sorts, IsSortBelow}
use Rattle.hb_calculus.specs.Typing.{HasType, of_prop, of_level, of_variable, of_constant, of_product, of_function, of_application, of_projection, reduced, weaker, AreTypes, AreTypesBelow, IsTyped}
use Rattle.hb_calculus.specs.Budget.{Budget}
use Rattle.hb_calculus.specs.Inference.{Infers, infers_prop, infers_level, infers_variable, infers_constant, infers_product, infers_function, infers_application, infers_projection, SortIs, Checks, SortsAre, sorts_end, sorts_next, least_level, Accepts, accepts_axiom, accepts_definition, accepts_record}
use Rattle.hb_calculus.proofs.Sequences.{head_form-steps}

module _ (E : List Decl) (L : Budget) where
  pub Infers-sound : {G : List Tree} {t u : Tree} → Infers E L G t u → HasType E G t u
  Infers-sound (infers_prop e) = of_prop e
  Infers-sound (infers_level h e) = of_level h e
  Infers-sound (infers_variable h e) = of_variable h e
  Infers-sound (infers_constant e) = of_constant e
  Infers-sound (infers_product p h q k e) =
      of_product (reduced (Infers-sound p) (head_form-steps E _ _ h.form)) (reduced (Infers-sound q) (head_form-steps E _ _ k.form)) e
  Infers-sound (infers_function p h q) =
      of_function (reduced (Infers-sound p) (head_form-steps E _ _ h.form)) (Infers-sound q)
  Infers-sound (infers_application p h q b e) =
      of_application (reduced (Infers-sound p) (head_form-steps E _ _ h.form)) (Infers-sound q) b e
  Infers-sound (infers_projection qs e p h w l f k) =
      of_projection qs e (reduced (Infers-sound p) (head_form-steps E _ _ h.form)) w l f k

  pub SortIs-sound : (G : List Tree) (t : Tree) (s : Sort) → SortIs E L G t s → HasType E G t (sort s)
  SortIs-sound G t s h = reduced (Infers-sound h.infers) (head_form-steps E _ _ h.head.form)

  pub Checks-sound : (G : List Tree) (t u : Tree) → Checks E L G t u → HasType E G t u
  Checks-sound G t u h = weaker (Infers-sound h.infers) h.below (SortIs-sound G u h.sort_is h.is_type)

  pub SortsAre-types : {G ts : List Tree} {ss : List Sort} → SortsAre E L G ts ss → AreTypes E G ts
  SortsAre-types sorts_end = tt
  SortsAre-types (sorts_next {G = G} {a = a} {s = s} h r) = ((s, SortIs-sound G a s h), SortsAre-types r)

  -- the greatest level is as great as each
  sort-below : (s : Sort) (k : ℕ) → least_level (s ∷ []) ≤ k → IsSortBelow s (Level k)
  sort-below Prop k h = tt
  sort-below (Level j) k h = omega arith

  first_level : (s : Sort) (ss : List Sort) (k : ℕ) → least_level (s ∷ ss) ≤ k → least_level (s ∷ []) ≤ k
  first_level Prop ss k h = omega arith
  first_level (Level j) ss k h = omega arith

  rest_level : (s : Sort) (ss : List Sort) (k : ℕ) → least_level (s ∷ ss) ≤ k → least_level ss ≤ k
  rest_level Prop ss k h = h
  rest_level (Level j) ss k h = omega arith

  pub SortsAre-below : {G ts : List Tree} {ss : List Sort} (k : ℕ) → least_level ss ≤ k → SortsAre E L G ts ss → AreTypesBelow E k G ts
  SortsAre-below k h sorts_end = tt
  SortsAre-below k h (sorts_next {G = G} {a = a} {s = s} {ss = ss} p r) =
      ((s, SortIs-sound G a s p, sorts (sort-below s k (first_level s ss k h))), SortsAre-below k (rest_level s ss k h) r)

  pub Accepts-sound : {d : Decl} → Accepts E L d → IsTyped E d
  Accepts-sound (accepts_axiom {t = t} {s = s} h) = (s, SortIs-sound [] t s h)
  Accepts-sound (accepts_definition {t = t} {b = b} h) =
      ((h.sort_is, SortIs-sound [] t h.sort_is h.is_type), Checks-sound [] b t h)
  Accepts-sound (accepts_record {k = k} ss ss' p q e) =
      (SortsAre-types p, SortsAre-below k (let h : least_level ss' ≤ k = omega arith in h) q)
