-- The plain tree that a term stands for.
use Rattle.hb_tree.specs.Tree.{Tree, sort, rel, pi, lam, app, const, proj, hole}
use Rattle.hb_term.specs.declared.term.Term.{Term}
use Rattle.hb_term.specs.declared.term.Term.TheVariants.{Sort, Rel, Pi, Lam, App, Const, Proj, Hole}

-- the tree of a term; a part of a term is its tree
abbrev pub tree : Term → Tree
tree (Sort s) = sort s
tree (Rel v) = rel v
tree (Pi a b) = pi a b
tree (Lam a b) = lam a b
tree (App f a) = app f a
tree (Const c) = const c
tree (Proj r i t) = proj r i t
tree (Hole h) = hole h
