-- The inferred types of sorts, variables and constants.
use Rattle.std.proofs.Common.{◌≡◌, ℕ, ◌+◌, ◌<◌, ◌≤◌, List, length, subst, sym, refl}
use Rattle.hb_tree.specs.Tree.{Tree, sort}
use Rattle.hb_tree.specs.declared.leaves.Sort.{Sort}
use Rattle.hb_tree.specs.declared.leaves.Sort.TheVariants.{Prop, Level}
use Rattle.hb_calculus.specs.Declarations.{Decl}
use Rattle.hb_calculus.specs.Budget.{Budget}
use Rattle.hb_calculus.specs.Inference.{Infers, infers_prop, infers_level, level_too_high, fails_level}
use Rattle.hb_kernel.specs.Answers.{FailsAt}

pub too-high : (G : List Tree) (s : Sort) (k : ℕ) → s ≡ Level k → 62 < k → (n : ℕ) × ((E : List Decl) (L : Budget) → FailsAt E L G (sort s) level_too_high n)
too-high G s k e h =
    subst (λ (x : Sort). (n : ℕ) × ((E : List Decl) (L : Budget) → FailsAt E L G (sort x) level_too_high n)) (sym e)
    (length G, λ E L. (fails_level h, refl))

pub prop-type : (G : List Tree) (s : Sort) (u : Tree) → s ≡ Prop → u ≡ sort (Level 0) → (E : List Decl) (L : Budget) → Infers E L G (sort s) u
prop-type G s u e h = subst (λ (x : Sort). (E : List Decl) (L : Budget) → Infers E L G (sort x) u) (sym e) (λ E L. infers_prop h)

pub level-type : (G : List Tree) (s : Sort) (k : ℕ) (u : Tree) → s ≡ Level k → k ≤ 62 → u ≡ sort (Level (k + 1)) → (E : List Decl) (L : Budget) → Infers E L G (sort s) u
level-type G s k u e h g = subst (λ (x : Sort). (E : List Decl) (L : Budget) → Infers E L G (sort x) u) (sym e) (λ E L. infers_level h g)
