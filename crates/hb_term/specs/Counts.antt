-- The counts that a part keeps of its tree.
use Rattle.std.specs.Prelude.{◌≡◌, ℕ, ◌≤◌, ◌-◌, ◌^◌, Bool, min}
use Rattle.hb_tree.specs.Tree.{Tree, loose, nodes, depth, has_hole}

-- l, n and d are the variables that aren't bound inside, the nodes and the depth, the last two up to the end of their types;
-- h is whether a hole stands inside
pub record Counts (t : Tree) (l n d : ℕ) (h : Bool) : Type 0 where
  pub loose_is : l ≡ loose t
  pub loose_fits : l ≤ 2 ^ 32
  pub nodes_is : n ≡ min (nodes t) (2 ^ 64 - 1)
  pub depth_is : d ≡ min (depth t) (2 ^ 32 - 1)
  pub has_hole_is : h ≡ has_hole t
