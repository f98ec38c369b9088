-- Terms in which nothing is left open.
use Rattle.std.specs.Prelude.{◌≡◌, ℕ, ◌≤◌, false}
use Rattle.hb_tree.specs.Tree.{Tree, loose, has_hole}
use Rattle.hb_term.specs.Meaning.{tree}
use Rattle.hb_world.specs.declared.done.Typed.{Typed}

-- a term under n variables in which no hole stands
pub record IsClosedTerm (n : ℕ) (t : Tree) : Type 0 where
  pub scoped : loose t ≤ n
  pub solved : has_hole t ≡ false

-- a term with its type, both such
pub record IsClosedTyped (n : ℕ) (m : Typed) : Type 0 where
  pub term : IsClosedTerm n (tree m.term)
  pub ty : IsClosedTerm n (tree m.ty)
