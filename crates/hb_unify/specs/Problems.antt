-- The plain values of problems and refusals.
use Rattle.std.specs.Prelude.{◌≡◌, ℕ, List, cond, nat_lt, Option, None, Some, Result, Ok, Err}
use Rattle.hb_base.specs.declared.limits.Limits.{Limits}
use Rattle.hb_sets.specs.Set.{Set}
use Rattle.hb_tree.specs.Tree.{Tree, sort}
use Rattle.hb_tree.specs.declared.leaves.Sort.TheVariants.{Prop}
use Rattle.hb_term.specs.Meaning.{tree}
use Rattle.hb_calculus.specs.Budget.{budget}
use Rattle.hb_calculus.specs.Declarations.{Decl}
use Rattle.hb_hier.specs.Hierarchy.{Hierarchy}
use Rattle.hb_tables.specs.Maps.{Maps}
use Rattle.hb_holes.specs.Holes.{Place}
use Rattle.hb_holes.specs.Places.{places}
use Rattle.hb_keys.specs.Setting.{Setting, Local}
use Rattle.hb_keys.specs.Walks as walks
use Rattle.hb_keys.specs.Walks.{Walks}
use Rattle.hb_found.specs.Plain.{key}
use Rattle.hb_equations.specs.Forms as forms
use Rattle.hb_equations.specs.Machine.{State, Solves, Refuses}
use Rattle.hb_unify.specs.declared.problem.Problem.{Problem}
use Rattle.hb_unify.specs.declared.problem.Equation.{Equation}
use Rattle.hb_unify.specs.declared.inference.KeyFound.{KeyFound}
use Rattle.hb_unify.specs.declared.refused.UnifyRefused.{UnifyRefused}
use Rattle.hb_unify.specs.declared.refused.UnifyRefused.TheVariants.{Stuck, NoInstance, Spent, Moves, NoMemory}

-- the place of a hole of an earlier term of the command: closed, and read by no term
abbrev pub passed : Place
passed = record { depth = 0; value = Some (sort Prop) }

-- the value, and the depth, of a hole; none below the first of the problem
abbrev pub value_in : ℕ → ℕ → Option Place → Option Tree
value_in first h None = None
value_in first h (Some p) = cond (nat_lt h first) None p.value

abbrev pub depth_in : ℕ → ℕ → Option Place → Option ℕ
depth_in first h None = None
depth_in first h (Some p) = cond (nat_lt h first) None (Some p.depth)

-- what inference reads
abbrev pub given_setting : List Decl → Hierarchy → Maps → Option Local → Limits → Setting
given_setting env hier tables local limits = record { env = env; hier = hier; tables = tables; local = local; limits = budget limits }

abbrev pub equation_goal : Equation → forms.Goal
equation_goal q = forms.goal q.a.depth q.relation (tree q.a.term) (tree q.b.term)

-- the refusal says why the run ends
abbrev pub IsRefusedAs : forms.Cause → UnifyRefused → Type 0
IsRefusedAs x (Stuck a b) = (x ≡ forms.is_stuck a.depth (tree a.term) (tree b.term)) × (b.depth ≡ a.depth)
IsRefusedAs x (NoInstance w t) = x ≡ forms.no_instance w t.depth (tree t.term)
IsRefusedAs x (Spent t) = x ≡ forms.is_spent t.depth (tree t.term)
IsRefusedAs x Moves = x ≡ forms.no_moves
IsRefusedAs x NoMemory = Unit {0}

-- the run is refused, and so the answer says
pub record RefusesAs (S : Setting) (s : State) (e : UnifyRefused) : Type 0 where
  pub cause : forms.Cause
  pub refuses : Refuses S s cause
  pub refused : IsRefusedAs cause e

abbrev pub ProblemAnswer : Setting → State → Result Problem UnifyRefused → Type 0
ProblemAnswer S s (Ok p) = Solves S s p.moves (places p.holes.items)
ProblemAnswer S s (Err e) = RefusesAs S s e

-- the walk along a carrier c of depth n for the set X, after m moves, ends as the answer says, with k moves
abbrev pub FoundAnswer : Setting → ℕ → Set → ℕ → Tree → ℕ → Result (Option KeyFound) UnifyRefused → Type 0
FoundAnswer S n X m c k (Ok (Some f)) = Walks S n X m c c (walks.found (key f.key) (tree f.term.term) k) × (f.term.depth ≡ n)
FoundAnswer S n X m c k (Ok None) = Walks S n X m c c (walks.missing k)
FoundAnswer S n X m c k (Err (Spent t)) = Walks S n X m c c (walks.stops (walks.spent (tree t.term))) × (t.depth ≡ n)
FoundAnswer S n X m c k (Err Moves) = Walks S n X m c c (walks.stops walks.no_moves)
FoundAnswer S n X m c k (Err NoMemory) = Unit {0}
FoundAnswer S n X m c k (Err (Stuck a b)) = ⊥
FoundAnswer S n X m c k (Err (NoInstance w t)) = ⊥
