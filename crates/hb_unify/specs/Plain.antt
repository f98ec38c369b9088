-- The plain values of equations and acts.
use Rattle.std.specs.Prelude.{◌≡◌, ◌<◌, ℕ, List, map, reverse, Option, None, Some, option_map, Result, Ok, Err}
use Rattle.hb_order.specs.declared.ids.StructId.{StructId}
use Rattle.hb_tree.specs.Tree.{Tree}
use Rattle.hb_term.specs.Meaning.{tree}
use Rattle.hb_term.specs.declared.term.Term.{Term}
use Rattle.hb_equations.specs.Forms as forms
use Rattle.hb_equations.specs.Forms.{goal, is_stuck}
use Rattle.hb_unify.specs.declared.act.Act.{Act}
use Rattle.hb_unify.specs.declared.act.Act.TheVariants.{Becomes, Gives, Shares, Stays, Ends}
use Rattle.hb_unify.specs.declared.act.Cause.{Cause}
use Rattle.hb_unify.specs.declared.act.Cause.TheVariants.{Stuck, NoInstance, Spent, NoMoves, NoMemory}
use Rattle.hb_unify.specs.declared.act.Value.{Value}
use Rattle.hb_unify.specs.declared.act.Sides.{Sides}
use Rattle.hb_unify.specs.declared.act.Taken.{Taken}
use Rattle.hb_unify.specs.declared.machine.Machine.{Machine}
use Rattle.hb_calculus.specs.Declarations.{Decl}
use Rattle.hb_calculus.specs.Budget.{Budget}
use Rattle.hb_calculus.specs.Sequence.{IsNormalForm, Exceeds}
use Rattle.hb_holes.specs.Holes.{Place}
use Rattle.hb_holes.specs.Places.{places}
use Rattle.hb_keys.specs.Setting.{Setting}
use Rattle.hb_base.specs.declared.name_id.NameId.{NameId}
use Rattle.hb_hier.specs.Hierarchy.{Hierarchy, name_of}
use Rattle.hb_hier.specs.declared.known.Known.TheVariants.{Structure}
use Rattle.hb_equations.specs.Machine as machine
use Rattle.hb_equations.specs.Machine.{State, state, Acts, Turn, Turns, Stops, Solves, Refuses, next_state}
use Rattle.hb_unify.specs.declared.act.Goal.{Goal}
use Rattle.hb_unify.specs.declared.act.SortOf.{SortOf}
use Rattle.hb_unify.specs.declared.act.Unfolded.{Unfolded}
use Rattle.hb_unify.specs.declared.act.Made.{Made}

abbrev pub goal_of : Goal → forms.Goal
goal_of q = goal q.depth q.relation (tree q.left) (tree q.right)

abbrev pub goals : List Goal → List forms.Goal
goals qs = map goal_of qs

-- why a run ends
abbrev pub cause_of : Cause → forms.Cause
cause_of (Stuck n a b) = is_stuck n (tree a) (tree b)
cause_of (NoInstance w n t) = forms.no_instance w n (tree t)
cause_of (Spent n t) = forms.is_spent n (tree t)
cause_of NoMoves = forms.no_moves
cause_of NoMemory = forms.no_memory

-- an act; where the equation stays as it is, it is stuck
abbrev pub act_of : forms.Act → Act → forms.Act
act_of stuck (Becomes qs) = forms.becomes (goals qs.items)
act_of stuck (Gives i v) = forms.gives i (tree v)
act_of stuck (Shares i c k d depth) = forms.shares i c k d depth
act_of stuck Stays = stuck
act_of stuck (Ends c) = forms.ends (cause_of c)

abbrev pub sort_of : SortOf → forms.SortOf
sort_of x = record { at = x.at; structure = x.structure.0 }

abbrev pub unfolded_of : Unfolded → forms.Unfolded
unfolded_of u = record { declared = u.declared; term = tree u.term }

abbrev pub made_of : Made → forms.Made
made_of m = record { made_by = m.made_by; fields = map tree m.fields.items }

abbrev pub value_of : Value → forms.Value
value_of v = record { at = v.at; value = tree v.value }

-- what stands for an equation that stays as it is
abbrev pub stuck_at : Sides → forms.Act
stuck_at p = forms.ends (is_stuck p.depth (tree p.left.now) (tree p.right.now))

-- what the equation does, after m moves
abbrev pub ActsOf : Setting → List Place → Sides → ℕ → Taken → Type 0
ActsOf S H p m t = Acts S H p.depth p.relation (tree p.left.now) (tree p.right.now) m (act_of (stuck_at p) t.act) t.moves

abbrev pub HeadsOf : Setting → Sides → Type 0
HeadsOf S p = machine.Heads S (tree p.left.now) (tree p.right.now)

abbrev pub OpensOf : Setting → List Place → Sides → Type 0
OpensOf S H p = machine.Opens S H p.depth (tree p.left.now) (tree p.right.now)

-- the normal form, or none where the term exceeds the budget on the way to it
abbrev pub NormalIs : List Decl → Budget → Tree → Option Term → Type 0
NormalIs E L t (Some u) = IsNormalForm E t (tree u) × ¬ Exceeds E L t
NormalIs E L t None = Exceeds E L t

-- equations that are left, as a stack: the last one comes first
abbrev pub stacked : List Goal → List forms.Goal
stacked qs = reverse (goals qs)

abbrev pub state_of : Machine → State
state_of m = state m.moves (places m.holes.items) (stacked m.left.items)

abbrev pub NextAnswer : ℕ → List Place → List forms.Goal → forms.Act → Result Machine Cause → Type 0
NextAnswer l H Q x (Ok m) = (next_state l H Q x ≡ Some (state_of m)) × (m.moves ≡ l)
NextAnswer l H Q x (Err (Stuck n a b)) = x ≡ forms.ends (cause_of (Stuck n a b))
NextAnswer l H Q x (Err (NoInstance w n t)) = x ≡ forms.ends (cause_of (NoInstance w n t))
NextAnswer l H Q x (Err (Spent n t)) = x ≡ forms.ends (cause_of (Spent n t))
NextAnswer l H Q x (Err NoMoves) = x ≡ forms.ends forms.no_moves
NextAnswer l H Q x (Err NoMemory) = Unit {0}

abbrev pub TurnAnswer : Setting → State → Result Machine Cause → Type 0
TurnAnswer S s (Ok m) = Turn S s (state_of m)
TurnAnswer S s (Err e) = Stops S s (cause_of e)

-- a turn has a move to take, and moves only grow
abbrev pub IsLater : ℕ → ℕ → Result Machine Cause → Type 0
IsLater steps m (Ok n) = (m < steps) × (m < n.moves)
IsLater steps m (Err e) = Unit {0}

abbrev pub SolveAnswer : Setting → State → Result Machine Cause → Type 0
SolveAnswer S s (Ok m) = Solves S s m.moves (places m.holes.items)
SolveAnswer S s (Err e) = Refuses S s (cause_of e)

-- a hole with a value, where there is one
abbrev pub valued : ℕ → Option Tree → Option forms.Value
valued i o = option_map (λ v. record { at = i; value = v }) o

-- it ends the run: the term exceeds the budget; the structure has no instance
abbrev pub SpentAt : ℕ → Tree → ℕ → Taken → Type 0
SpentAt n t m r = ((stuck : forms.Act) → act_of stuck r.act ≡ forms.ends (forms.is_spent n t)) × (r.moves ≡ m)

abbrev pub IsNoInstance : Hierarchy → StructId → ℕ → Tree → Act → Type 0
IsNoInstance h s n t act =
    (w : NameId) × (name_of h (Structure s) ≡ Some w) × ((stuck : forms.Act) → act_of stuck act ≡ forms.ends (forms.no_instance w n t))

-- the equation as it stands, if memory is there
abbrev pub IsStuckAt : Sides → Cause → Type 0
IsStuckAt p (Stuck n a b) = stuck_at p ≡ forms.ends (cause_of (Stuck n a b))
IsStuckAt p (NoInstance w n t) = ⊥
IsStuckAt p (Spent n t) = ⊥
IsStuckAt p NoMoves = ⊥
IsStuckAt p NoMemory = Unit {0}
