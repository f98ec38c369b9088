-- The machine: what one equation does, one move, and runs.
use Rattle.std.specs.Prelude.{◌≡◌, ◌≢◌, ℕ, ◌+◌, ◌<◌, ◌≤◌, Bool, false, true, ◌||◌, List, [], ◌∷◌, ◌++◌, length, Option, None, Some}
use Rattle.hb_base.specs.declared.name_id.NameId.{NameId}
use Rattle.hb_sets.specs.Set.{Set}
use Rattle.hb_order.specs.Heirs.{IsCommonHeir, IsJoin}
use Rattle.hb_tree.specs.Tree.{Tree, app, const, hole, has_hole}
use Rattle.hb_tree.specs.declared.leaves.ConstId.{ConstId}
use Rattle.hb_calculus.specs.Conversion.{Ordered}
use Rattle.hb_calculus.specs.Sequence.{IsNormalForm, Exceeds}
use Rattle.hb_hier.specs.Hierarchy.{sets, name_of}
use Rattle.hb_hier.specs.declared.known.Known.TheVariants.{Structure}
use Rattle.hb_holes.specs.Holes.{Place, blank, filled, given}
use Rattle.hb_keys.specs.Setting.{Setting}
use Rattle.hb_keys.specs.Keys.{Key, struct_id, mixins_of, value_at}
use Rattle.hb_keys.specs.Walks as walks
use Rattle.hb_keys.specs.Walks.{Walks, Stop, found, missing, stops}
use Rattle.hb_equations.specs.declared.relation.Relation.{Relation}
use Rattle.hb_equations.specs.declared.relation.Relation.TheVariants.{Equal, Below}
use Rattle.hb_equations.specs.Forms.{Goal, goal, Cause, is_stuck, no_instance, is_spent, no_moves, no_memory, Act, becomes, gives, shares, ends, weak, hole_value, SortOf, sort_of_hole, joined, inferred, form_act, Value}

-- normal forms that are the same, or in order
abbrev pub Fit : Relation → Tree → Tree → Type 0
Fit Equal x y = x ≡ y
Fit Below x y = Ordered x y

-- a hole stands in one of two terms, whose holes with values are put in
abbrev pub is_open : Tree → Tree → Bool
is_open a b = has_hole a || has_hole b

-- both sides are in head form, and differ
pub record Heads (S : Setting) (a b : Tree) : Type 0 where
  pub left : weak S.env a ≡ None
  pub right : weak S.env b ≡ None
  pub differ : a ≢ b

-- so, and one has a hole, and neither is a hole whose value the other can be
pub record Opens (S : Setting) (H : List Place) (n : ℕ) (a b : Tree) : Type 0 where
  pub heads : Heads S a b
  pub open_is : is_open a b ≡ true
  pub none : hole_value H n a b ≡ None

-- the sort of a hole on one side alone, and the other side
pub data OneSort (S : Setting) : Tree → Tree → SortOf → Tree → Type 0 where
  on_left : {a b : Tree} {x : SortOf} → sort_of_hole S a ≡ Some x → sort_of_hole S b ≡ None → OneSort S a b x b
  on_right : {a b : Tree} {x : SortOf} → sort_of_hole S a ≡ None → sort_of_hole S b ≡ Some x → OneSort S a b x a

-- what breaks a walk off ends the run
abbrev pub stop_cause : ℕ → Stop → Cause
stop_cause n (walks.spent t) = is_spent n t
stop_cause n walks.no_moves = no_moves
stop_cause n walks.no_memory = no_memory

-- The equation of a and b, terms of depth n with values put in, does x by a move that leaves m moves taken, and k
-- after it: a walk's looks are moves too.
pub data Acts (S : Setting) (H : List Place) (n : ℕ) (r : Relation) (a b : Tree) (m : ℕ) : Act → ℕ → Type 0 where
  step_left : {u : Tree} {k : ℕ} → weak S.env a ≡ Some u → k ≡ m → Acts S H n r a b m (becomes (goal n r u b ∷ [])) k
  step_right :
      {u : Tree} {k : ℕ} → weak S.env a ≡ None → weak S.env b ≡ Some u → k ≡ m
      → Acts S H n r a b m (becomes (goal n r a u ∷ [])) k
  are_same : {k : ℕ} → weak S.env a ≡ None → weak S.env b ≡ None → a ≡ b → k ≡ m → Acts S H n r a b m (becomes []) k
  normal_spent : {k : ℕ} → Heads S a b → is_open a b ≡ false → Exceeds S.env S.limits a → k ≡ m → Acts S H n r a b m (ends (is_spent n a)) k
  normal_spent_second :
      {k : ℕ} → Heads S a b → is_open a b ≡ false → ¬ Exceeds S.env S.limits a → Exceeds S.env S.limits b → k ≡ m
      → Acts S H n r a b m (ends (is_spent n b)) k
  normal_meet :
      {x y : Tree} {k : ℕ} → Heads S a b → is_open a b ≡ false → ¬ Exceeds S.env S.limits a → ¬ Exceeds S.env S.limits b
      → IsNormalForm S.env a x → IsNormalForm S.env b y → Fit r x y → k ≡ m → Acts S H n r a b m (becomes []) k
  normal_differ :
      {x y : Tree} {k : ℕ} → Heads S a b → is_open a b ≡ false → ¬ Exceeds S.env S.limits a → ¬ Exceeds S.env S.limits b
      → IsNormalForm S.env a x → IsNormalForm S.env b y → ¬ Fit r x y → k ≡ m → Acts S H n r a b m (ends (is_stuck n a b)) k
  hole_gets :
      {v : Value} {k : ℕ} → Heads S a b → is_open a b ≡ true → hole_value H n a b ≡ Some v → k ≡ m
      → Acts S H n r a b m (gives v.at v.value) k
  -- the sorts of two holes
  sorts_same :
      {x y : SortOf} {k : ℕ} → Opens S H n a b → sort_of_hole S a ≡ Some x → sort_of_hole S b ≡ Some y
      → x.structure ≡ y.structure → k ≡ m → Acts S H n r a b m (becomes (goal n Equal (hole x.at) (hole y.at) ∷ [])) k
  sorts_stuck :
      {x y : SortOf} {k : ℕ} → Opens S H n a b → sort_of_hole S a ≡ Some x → sort_of_hole S b ≡ Some y
      → x.structure ≢ y.structure → x.at ≡ y.at → k ≡ m → Acts S H n r a b m (ends (is_stuck n a b)) k
  sorts_apart :
      {x y : SortOf} {k : ℕ} → Opens S H n a b → sort_of_hole S a ≡ Some x → sort_of_hole S b ≡ Some y
      → x.structure ≢ y.structure → x.at ≢ y.at → ((j : ℕ) → ¬ IsCommonHeir (sets S.hier) x.structure y.structure j)
      → k ≡ m → Acts S H n r a b m (ends (is_stuck n a b)) k
  sorts_join :
      {x y : SortOf} {J k : ℕ} {act : Act} → Opens S H n a b → sort_of_hole S a ≡ Some x → sort_of_hole S b ≡ Some y
      → x.structure ≢ y.structure → x.at ≢ y.at → IsJoin (sets S.hier) x.structure y.structure J
      → act ≡ joined S.tables (ends (is_stuck n a b)) H n x y J → k ≡ m → Acts S H n r a b m act k
  -- the sort of one hole, against a carrier t
  sort_found :
      {x : SortOf} {t u : Tree} {X : Set} {key : Key} {act : Act} {k : ℕ} → Opens S H n a b → OneSort S a b x t
      → X ≡ mixins_of S x.structure → Walks S n X m t t (found key u k)
      → act ≡ inferred (ends (is_stuck n a b)) H n x.at (value_at S n x.structure key) → Acts S H n r a b m act k
  sort_missing :
      {x : SortOf} {t : Tree} {X : Set} {w : NameId} {k : ℕ} → Opens S H n a b → OneSort S a b x t
      → X ≡ mixins_of S x.structure → Walks S n X m t t (missing k)
      → name_of S.hier (Structure (struct_id x.structure)) ≡ Some w → Acts S H n r a b m (ends (no_instance w n t)) k
  sort_stops :
      {x : SortOf} {t : Tree} {X : Set} {s : Stop} {c : Cause} {k : ℕ} → Opens S H n a b → OneSort S a b x t
      → X ≡ mixins_of S x.structure → Walks S n X m t t (stops s) → c ≡ stop_cause n s → Acts S H n r a b m (ends c) k
  by_form :
      {act : Act} {k : ℕ} → Opens S H n a b → sort_of_hole S a ≡ None → sort_of_hole S b ≡ None
      → act ≡ form_act S.env n r a b → k ≡ m → Acts S H n r a b m act k
  act_memory : {k : ℕ} → Acts S H n r a b m (ends no_memory) k

-- the moves taken, the holes, and the equations that are left, the first first
pub data State : Type 0 where
  state : (m : ℕ) (H : List Place) (Q : List Goal) → State

-- holes i and k get `c j` and `d j` for a new hole j
abbrev pub with_shared : List Place → ℕ → ConstId → ℕ → ConstId → ℕ → List Place
with_shared H i c k d depth =
    let j : Tree = hole (length H) in
    given (given (H ++ blank depth ∷ []) i (app (const c) j)) k (app (const d) j)

abbrev pub next_state : ℕ → List Place → List Goal → Act → Option State
next_state m H Q (becomes P) = Some (state m H (P ++ Q))
next_state m H Q (gives i v) = Some (state m (given H i v) Q)
next_state m H Q (shares i c k d depth) = Some (state m (with_shared H i c k d depth) Q)
next_state m H Q (ends c) = None

-- one move, and the looks of its walk
pub data Turn (S : Setting) : State → State → Type 0 where
  turn :
      {m k l n : ℕ} {H : List Place} {r : Relation} {a b a' b' : Tree} {Q : List Goal} {x : Act} {s : State} → m < S.limits.steps
      → a' ≡ filled H n a → b' ≡ filled H n b → k ≡ m + 1 → Acts S H n r a' b' k x l → next_state l H Q x ≡ Some s
      → Turn S (state m H (goal n r a b ∷ Q)) s

pub data Turns (S : Setting) : State → State → Type 0 where
  begin : {s : State} → Turns S s s
  more : {s t u : State} → Turns S s t → Turn S t u → Turns S s u

-- an equation is left, and no move, or it ends the run
pub data Stops (S : Setting) : State → Cause → Type 0 where
  stop_moves : {m : ℕ} {H : List Place} {q : Goal} {Q : List Goal} → S.limits.steps ≤ m → Stops S (state m H (q ∷ Q)) no_moves
  stop_ends :
      {m k l n : ℕ} {H : List Place} {r : Relation} {a b a' b' : Tree} {Q : List Goal} {c : Cause} → m < S.limits.steps
      → a' ≡ filled H n a → b' ≡ filled H n b → k ≡ m + 1 → Acts S H n r a' b' k (ends c) l
      → Stops S (state m H (goal n r a b ∷ Q)) c
  stop_memory : {s : State} → Stops S s no_memory

-- all equations are solved, with m moves and the holes H
pub record Solves (S : Setting) (s : State) (m : ℕ) (H : List Place) : Type 0 where
  pub turns : Turns S s (state m H [])

pub record Refuses (S : Setting) (s : State) (c : Cause) : Type 0 where
  pub last : State
  pub turns : Turns S s last
  pub stops : Stops S last c
