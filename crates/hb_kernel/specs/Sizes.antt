-- The first term that is too large.
use Rattle.std.specs.Prelude.{◌≡◌, ℕ, ◌+◌, List, ◌∷◌, ◌++◌, length}
use Rattle.hb_tree.specs.Tree.{Tree}
use Rattle.hb_term.specs.Meaning.{tree}
use Rattle.hb_term.specs.declared.scoped.Scoped.{Scoped}
use Rattle.hb_calculus.specs.Budget.{Budget, TooLarge}
use Rattle.hb_kernel.specs.Scoping.{AreFit}

-- of terms of which the first stands under n variables, and each next one under one more
pub record IsFirstLarge (L : Budget) (ts : List Tree) (n : ℕ) (s : Scoped) : Type 0 where
  pub before : List Tree
  pub behind : List Tree
  pub stands : ts ≡ before ++ tree s.term ∷ behind
  pub under : s.depth ≡ n + length before
  pub fit : AreFit L before
  pub large : TooLarge L (tree s.term)
