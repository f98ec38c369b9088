-- What the steps of a walk answer.
use Rattle.std.specs.Prelude.{◌≡◌, ◌+◌, List, [], Option, None}
use Rattle.hb_tree.specs.Tree.{Tree, proj, nodes}
use Rattle.hb_calculus.specs.Contraction.{leftmost}
use Rattle.hb_reduce.specs.Frames.{Frame, make, plug, pending}
use Rattle.hb_reduce.specs.Rules.{IsClear, IsFound, IsDone}
use Rattle.hb_reduce.specs.declared.walk.Inside.{Inside}
use Rattle.hb_reduce.specs.declared.walk.Inside.TheVariants as inside
use Rattle.hb_reduce.specs.declared.walk.Turn.{Turn}
use Rattle.hb_reduce.specs.declared.walk.Turn.TheVariants as turn
use Rattle.hb_reduce.specs.declared.walk.Found.{Found}
use Rattle.hb_reduce.specs.declared.walk.Found.TheVariants as found

-- the term's former and parts; in a term without parts a rule has no other place
abbrev pub InsideOf : Tree → Inside → Type 0
InsideOf t inside.Leaf = (rule : Tree → Option Tree) → rule t ≡ None → leftmost rule t ≡ None
InsideOf t (inside.Two c a b) = t ≡ make c a b
InsideOf t (inside.One r i u) = t ≡ proj r i u

-- a place that is reached from another of the same whole, where the rule gives nothing in the other's part
pub record IsTurned (fs : List Frame) (t : Tree) (gs : List Frame) (u : Tree) : Type 0 where
  pub whole : plug gs u ≡ plug fs t
  pub less : pending gs + nodes u ≡ pending fs
  pub clear : (rule : Tree → Option Tree) → IsClear rule fs t → leftmost rule t ≡ None → IsClear rule gs u

pub record IsTopped (fs : List Frame) (t : Tree) (gs : List Frame) (u : Tree) : Type 0 where
  pub whole : u ≡ plug fs t
  pub top : gs ≡ []
  pub none : (rule : Tree → Option Tree) → IsClear rule fs t → leftmost rule t ≡ None → leftmost rule u ≡ None

abbrev pub TurnAnswer : List Frame → Tree → List Frame → Turn → Type 0
TurnAnswer fs t gs (turn.Down u) = IsTurned fs t gs u
TurnAnswer fs t gs (turn.Top u) = IsTopped fs t gs u

-- the place above a part where the rule gives nothing
pub record IsAbove (fs : List Frame) (t : Tree) (gs : List Frame) (u : Tree) : Type 0 where
  pub whole : plug gs u ≡ plug fs t
  pub same : pending gs ≡ pending fs
  pub clear : (rule : Tree → Option Tree) → IsClear rule fs t → leftmost rule t ≡ None → IsClear rule gs u × (leftmost rule u ≡ None)

abbrev pub FoundAnswer : (Tree → Option Tree) → Tree → List Frame → Found → Type 0
FoundAnswer rule w fs (found.Step u) = IsFound rule w fs u
FoundAnswer rule w fs (found.Done u) = IsDone rule w fs u
