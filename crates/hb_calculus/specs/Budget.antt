-- The budget of a reduction.
use Rattle.std.specs.Prelude.{ℕ, ◌<◌, ◌⊎◌}
use Rattle.hb_base.specs.declared.limits.Limits.{Limits}
use Rattle.hb_tree.specs.Tree.{Tree, nodes, depth}

-- at most so many steps, and in each term at most so many nodes and so much depth
pub record Budget : Type 0 where
  pub steps : ℕ
  pub nodes : ℕ
  pub depth : ℕ

-- the budget that the limits give
abbrev pub budget : Limits → Budget
budget l = record { steps = l.steps; nodes = l.nodes; depth = l.depth }

-- the term itself passes the budget
abbrev pub TooLarge : Budget → Tree → Type 0
TooLarge L t = (L.nodes < nodes t) ⊎ (L.depth < depth t)
