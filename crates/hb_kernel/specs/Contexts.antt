-- Contexts, the innermost type first.
use Rattle.std.specs.Prelude.{◌≡◌, ℕ, List, [], ◌∷◌, ◌≤◌, length}
use Rattle.hb_tree.specs.Tree.{Tree, loose}
use Rattle.hb_term.specs.Meaning.{tree}
use Rattle.hb_kernel.specs.declared.scope.Context.{Context}
use Rattle.hb_kernel.specs.declared.scope.Context.TheVariants.{Empty, Under'}

-- the types of the variables
abbrev pub types : Context → List Tree
types Empty = []
types (Under' t p outer) = tree t.now ∷ types outer

-- each type is scoped in those behind it
abbrev pub IsStacked : List Tree → Type 0
IsStacked [] = Unit {0}
IsStacked (t ∷ G) = (loose t ≤ length G) × IsStacked G

-- it has so many types, each scoped in those behind it
pub record IsContext (G : List Tree) (n : ℕ) : Type 0 where
  pub counted : n ≡ length G
  pub stacked : IsStacked G
