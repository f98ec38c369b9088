-- What an equation does, from what its parts answer.
use Rattle.std.proofs.Common.{◌≡◌, ℕ, List, refl, false, Result, Ok, Err}
use Rattle.std.specs.Prelude.{IfOk}
use Rattle.hb_term.specs.Meaning.{tree}
use Rattle.hb_holes.specs.Holes.{Place}
use Rattle.hb_keys.specs.Setting.{Setting}
use Rattle.hb_calculus.specs.Sequence.{Exceeds}
use Rattle.hb_equations.specs.Machine.{is_open, normal_spent, normal_spent_second}
use Rattle.hb_unify.specs.declared.act.Sides.{Sides}
use Rattle.hb_unify.specs.declared.act.Taken.{Taken}
use Rattle.hb_unify.specs.Plain.{ActsOf, HeadsOf, SpentAt, stuck_at}

pub if_ok : {A E : Type 0} (P Q : A → Type 0) → ((x : A) → P x → Q x) → (r : Result A E) → IfOk r P → IfOk r Q
if_ok P Q f (Ok x) h = f x h
if_ok P Q f (Err e) h = tt

pub spent_first :
    (S : Setting) (p : Sides) (m : ℕ) → HeadsOf S p → is_open (tree p.left.now) (tree p.right.now) ≡ false
    → Exceeds S.env S.limits (tree p.left.now) → (t : Taken) → SpentAt p.depth (tree p.left.now) m t → (H : List Place) → ActsOf S H p m t
spent_first S p m h o x t e = λ H. rw (e.0 (stuck_at p), e.1) (normal_spent h o x refl)

pub spent_second :
    (S : Setting) (p : Sides) (m : ℕ) → HeadsOf S p → is_open (tree p.left.now) (tree p.right.now) ≡ false
    → ¬ Exceeds S.env S.limits (tree p.left.now) → Exceeds S.env S.limits (tree p.right.now) → (t : Taken)
    → SpentAt p.depth (tree p.right.now) m t → (H : List Place) → ActsOf S H p m t
spent_second S p m h o x y t e = λ H. rw (e.0 (stuck_at p), e.1) (normal_spent_second h o x y refl)
