-- A place inside a term, as the list of the formers around it (Huet, "The Zipper").
use Rattle.std.specs.Prelude.{ℕ, ◌+◌, max, List, [], ◌∷◌, length}
use Rattle.hb_tree.specs.Tree.{Tree, pi, lam, app, proj, nodes, depth}
use Rattle.hb_tree.specs.declared.leaves.RecId.{RecId}
use Rattle.hb_reduce.specs.declared.former.Former.{Former}
use Rattle.hb_reduce.specs.declared.former.Former.TheVariants.{Product, Function, Application}

-- the term of a former with two parts
abbrev pub make : Former → Tree → Tree → Tree
make Product a b = pi a b
make Function a b = lam a b
make Application a b = app a b

-- one former around a place: the place is the first of two parts, the second of two, or the projected term
pub data Frame : Type 0 where
  left : (c : Former) → (b : Tree) → Frame
  right : (c : Former) → (a : Tree) → Frame
  under : (r : RecId) → (i : ℕ) → Frame

abbrev pub wrap : Frame → Tree → Tree
wrap (left c b) t = make c t b
wrap (right c a) t = make c a t
wrap (under r i) t = proj r i t

-- the whole term with t at the place; the innermost frame comes first
abbrev pub plug : List Frame → Tree → Tree
plug [] t = t
plug (f ∷ fs) t = plug fs (wrap f t)

-- the nodes of the frames
abbrev pub own_nodes : Frame → ℕ
own_nodes (left c b) = nodes b + 1
own_nodes (right c a) = nodes a + 1
own_nodes (under r i) = 1

abbrev pub around : List Frame → ℕ
around [] = 0
around (f ∷ fs) = around fs + own_nodes f

-- the depth of the whole that the frames reach by themselves
abbrev pub own_depth : Frame → ℕ
own_depth (left c b) = depth b
own_depth (right c a) = depth a
own_depth (under r i) = 0

abbrev pub reach : List Frame → ℕ
reach [] = 0
reach (f ∷ fs) = max (reach fs) (length fs + own_depth f + 1)

-- the nodes that a walk from left to right has yet to visit
abbrev pub own_pending : Frame → ℕ
own_pending (left c b) = nodes b
own_pending (right c a) = 0
own_pending (under r i) = 0

abbrev pub pending : List Frame → ℕ
pending [] = 0
pending (f ∷ fs) = pending fs + own_pending f
