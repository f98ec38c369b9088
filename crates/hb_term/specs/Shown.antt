-- The tree that one look at a term shows.
use Rattle.hb_tree.specs.Tree.{Tree, sort, rel, pi, lam, app, const, proj, hole}
use Rattle.hb_term.specs.Meaning.{tree}
use Rattle.hb_term.specs.declared.view.View.{View}
use Rattle.hb_term.specs.declared.view.View.TheVariants.{Sort, Rel, Pi, Lam, App, Const, Proj, Hole}

abbrev pub shown : View → Tree
shown (Sort s) = sort s
shown (Rel v) = rel v
shown (Pi a b) = pi (tree a.now) (tree b.now)
shown (Lam a b) = lam (tree a.now) (tree b.now)
shown (App f a) = app (tree f.now) (tree a.now)
shown (Const c) = const c
shown (Proj r i t) = proj r i (tree t.now)
shown (Hole h) = hole h
