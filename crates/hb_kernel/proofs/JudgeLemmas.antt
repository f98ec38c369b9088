-- One type of a context more.
use Rattle.std.proofs.Common.{◌≡◌, ℕ, ◌+◌, List, ◌∷◌, length, subst, ap, arith}
use Rattle.hb_tree.specs.Tree.{Tree}
use Rattle.hb_term.specs.declared.term.Term.{Term}
use Rattle.hb_term.specs.Meaning.{tree}
use Rattle.hb_calculus.specs.Declarations.{Decl}
use Rattle.hb_calculus.specs.Typing.{AreTypes}
use Rattle.hb_calculus.proofs.WellScoped.{HasType-scoped}
use Rattle.hb_env.specs.Plain.{trees}
use Rattle.hb_kernel.specs.Contexts.{IsContext}
use Rattle.hb_kernel.specs.Scoping.{IsKnown}

module _ (E : List Decl) where
  types-are : (G : List Tree) (rest others : List Term) (first : Term) → rest ≡ first ∷ others → AreTypes E G (trees rest) → AreTypes E G (tree first ∷ trees others)
  types-are G rest others first e h = subst (λ (xs : List Term). AreTypes E G (trees xs)) e h

  pub inner-context : (G : List Tree) (n m : ℕ) (rest others : List Term) (first : Term) → rest ≡ first ∷ others → m ≡ n + 1 → IsContext G n → AreTypes E G (trees rest) → IsContext (tree first ∷ G) m
  inner-context G n m rest others first e d c h =
      let t = (HasType-scoped E ((types-are G rest others first e h).0.1)).variables in
      let k = c.counted in
      record { counted = (let q : m ≡ length (tree first ∷ G) = omega arith in q); stacked = (t, c.stacked) }

  pub inner-types : (G : List Tree) (rest others : List Term) (first : Term) → rest ≡ first ∷ others → AreTypes E G (trees rest) → AreTypes E (tree first ∷ G) (trees others)
  inner-types G rest others first e h = (types-are G rest others first e h).1

  pub inner-known : (n m : ℕ) (rest others : List Term) (first : Term) (t : Tree) → rest ≡ first ∷ others → m ≡ n + 1 → IsKnown E (n + length rest) t → IsKnown E (m + length others) t
  inner-known n m rest others first t e d h =
      let l = ap length e in
      subst (λ k. IsKnown E k t) (let q : n + length rest ≡ m + length others = omega arith in q) h
