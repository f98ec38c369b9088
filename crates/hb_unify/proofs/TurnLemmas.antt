-- One move, from an act and what follows it.
use Rattle.std.proofs.Common.{◌≡◌, ◌<◌, ◌≤◌, ◌+◌, ◌∙◌, ℕ, List, [], ◌∷◌, ◌++◌, refl, sym, ap, arith, Result, Ok, Err}
use Rattle.std.proofs.lemmas.List.{map-append, reverse-append, append_assoc}
use Rattle.hb_tree.specs.Tree.{Tree}
use Rattle.hb_holes.specs.Holes.{Place, filled}
use Rattle.hb_keys.specs.Setting.{Setting}
use Rattle.hb_equations.specs.declared.relation.Relation.{Relation}
use Rattle.hb_equations.specs.Forms as forms
use Rattle.hb_equations.specs.Forms.{goal}
use Rattle.hb_equations.specs.Machine.{State, state, Acts, turn, Turns, begin, Stops, stop_ends, stop_memory, Refuses}
use Rattle.hb_unify.specs.declared.act.Goal.{Goal}
use Rattle.hb_unify.specs.declared.act.Cause.{Cause}
use Rattle.hb_unify.specs.declared.act.Cause.TheVariants.{Stuck, NoInstance, Spent, NoMoves, NoMemory}
use Rattle.hb_unify.specs.declared.machine.Machine.{Machine}
use Rattle.hb_unify.specs.Plain.{goal_of, goals, stacked, NextAnswer, TurnAnswer, IsLater}

pub stacked_more : (qs : List Goal) (q : Goal) → stacked (qs ++ q ∷ []) ≡ goal_of q ∷ stacked qs
stacked_more qs q = rw (map-append, reverse-append) refl

pub before_next :
    (ps rest ls : List Goal) (q : Goal) (all : List forms.Goal) → ps ≡ rest ++ q ∷ [] → goals ps ++ stacked ls ≡ all
    → goals rest ++ stacked (ls ++ q ∷ []) ≡ all
before_next ps rest ls q all e h = rw (stacked_more ls q) (sym (append_assoc (goals rest) (goal_of q ∷ []) (stacked ls)) ∙ (rw (e, map-append) at h))

pub turn_of :
    (S : Setting) (m k l n : ℕ) (H : List Place) (r : Relation) (a b a' b' : Tree) (Q : List forms.Goal) (x : forms.Act) (w : Result Machine Cause)
    → m < S.limits.steps → a' ≡ filled H n a → b' ≡ filled H n b → k ≡ m + 1 → Acts S H n r a' b' k x l → NextAnswer l H Q x w
    → TurnAnswer S (state m H (goal n r a b ∷ Q)) w
turn_of S m k l n H r a b a' b' Q x (Ok w) h e f g d c = turn h e f g d c.0
turn_of S m k l n H r a b a' b' Q x (Err (Stuck i t u)) h e f g d c = stop_ends h e f g (rw c at d)
turn_of S m k l n H r a b a' b' Q x (Err (NoInstance i t u)) h e f g d c = stop_ends h e f g (rw c at d)
turn_of S m k l n H r a b a' b' Q x (Err (Spent i t)) h e f g d c = stop_ends h e f g (rw c at d)
turn_of S m k l n H r a b a' b' Q x (Err NoMoves) h e f g d c = stop_ends h e f g (rw c at d)
turn_of S m k l n H r a b a' b' Q x (Err NoMemory) h e f g d c = stop_memory

pub later_of :
    (steps m k l : ℕ) (H : List Place) (Q : List forms.Goal) (x : forms.Act) (w : Result Machine Cause) → m < steps → k ≡ m + 1 → k ≤ l
    → NextAnswer l H Q x w → IsLater steps m w
later_of steps m k l H Q x (Ok w) h e f c = (h, omega (arith, e, f, c.1))
later_of steps m k l H Q x (Err e') h e f c = tt

pub no_turn : {S : Setting} {s : State} → Stops S s forms.no_memory
no_turn = stop_memory

pub no_run : {S : Setting} {s : State} → Refuses S s forms.no_memory
no_run {S} {s} = record { last = s; turns = begin; stops = stop_memory }

pub popped :
    {S : Setting} {s : State} (m : ℕ) (H : List Place) (ls rest : List Goal) (q : Goal) → ls ≡ rest ++ q ∷ [] → Turns S s (state m H (stacked ls))
    → Turns S s (state m H (goal_of q ∷ stacked rest))
popped m H ls rest q e h = let k : stacked ls ≡ goal_of q ∷ stacked rest = ap stacked e ∙ stacked_more rest q in rw k at h
