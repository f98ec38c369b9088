-- How far a reduction has come within its budget.
use Rattle.std.specs.Prelude.{◌≡◌, ℕ, ◌<◌, ◌≤◌, true, List, Option, Some, None, option_map}
use Rattle.hb_tree.specs.Tree.{Tree}
use Rattle.hb_calculus.specs.Declarations.{Decl}
use Rattle.hb_calculus.specs.Budget.{Budget, TooLarge}
use Rattle.hb_calculus.specs.Contraction.{contract, head_step, next_eta}
use Rattle.hb_calculus.specs.Sequence.{Stage, stepping, contracting, term_at, move, iterate, IsNormalForm, Exceeds, HeadExceeds}
use Rattle.hb_calculus.specs.Inference.{HeadIs}
use Rattle.hb_reduce.specs.declared.rule.Rule.{Rule}
use Rattle.hb_reduce.specs.declared.rule.Rule.TheVariants.{Step, Eta}
use Rattle.hb_reduce.specs.declared.walk.Found.{Found}
use Rattle.hb_reduce.specs.declared.walk.Found.TheVariants as found
use Rattle.hb_reduce.specs.declared.side.Side.{Side}
use Rattle.hb_reduce.specs.Frames.{Frame, wrap, plug}
use Rattle.hb_reduce.specs.Kinds.{asks, IsHeadPath}
use Rattle.hb_reduce.specs.Rules.{rule_of, IsClear, IsFound}
use Rattle.hb_reduce.specs.Stack.{frame}

-- after n times of the rule, at most as many as the budget has, s is reached, and no term before it is
-- too large
pub record SoFar {A : Type 0} (rule : A → Option A) (term : A → Tree) (L : Budget) (start : A) (n : ℕ) (s : A) : Type 0 where
  pub at : iterate rule n start ≡ Some s
  pub small : (m : ℕ) (z : A) → m < n → iterate rule m start ≡ Some z → ¬ TooLarge L (term z)
  pub within : n ≤ L.steps

-- the way to the weak head form of t stands at a place at the head
pub record AtHead (E : List Decl) (L : Budget) (t : Tree) (fs : List Frame) (now : Tree) (n : ℕ) : Type 0 where
  pub so_far : SoFar (head_step E) (λ x. x) L t n (plug fs now)
  pub clear : IsClear (contract E) fs now
  pub path : IsHeadPath fs

-- the phase of the rule: steps come first, and eta contractions once no step is left
abbrev pub IsPhase : Rule → List Decl → Stage → Type 0
IsPhase Step E s = (w : Tree) × (s ≡ stepping w)
IsPhase Eta E s = move E s ≡ option_map contracting (next_eta E (term_at s))

-- the way to the normal form of t stands at a place
pub record AtStage (E : List Decl) (L : Budget) (t : Tree) (rule : Rule) (fs : List Frame) (now : Tree) (n : ℕ) : Type 0 where
  pub stage : Stage
  pub so_far : SoFar (move E) term_at L (stepping t) n stage
  pub term : term_at stage ≡ plug fs now
  pub phase : IsPhase rule E stage
  pub clear : IsClear (rule_of rule E) fs now

-- one former nearer to the head, or the head
abbrev pub TowardHead : Tree → Option (Side × Tree) → Type 0
TowardHead t None = (E : List Decl) → head_step E t ≡ contract E t
TowardHead t (Some p) = (t ≡ wrap (frame p.0) p.1) × (asks (frame p.0) ≡ true)

-- a step at the head, or the term that has none
pub record IsHeadFound (E : List Decl) (w : Tree) (fs : List Frame) (u : Tree) : Type 0 where
  pub found : IsFound (contract E) w fs u
  pub path : IsHeadPath fs

pub record IsHeadDone (E : List Decl) (w u : Tree) : Type 0 where
  pub whole : w ≡ u
  pub none : head_step E u ≡ None

abbrev pub HeadFoundAnswer : List Decl → Tree → List Frame → Found → Type 0
HeadFoundAnswer E w fs (found.Step u) = IsHeadFound E w fs u
HeadFoundAnswer E w fs (found.Done u) = IsHeadDone E w u

-- the weak head form within the budget, or nothing where the term exceeds it
abbrev pub HeadFormAnswer : List Decl → Budget → Tree → Option Tree → Type 0
HeadFormAnswer E L t (Some u) = HeadIs E L t u
HeadFormAnswer E L t None = HeadExceeds E L t

-- the same of the normal form
pub record NormalIs (E : List Decl) (L : Budget) (t u : Tree) : Type 0 where
  pub form : IsNormalForm E t u
  pub within : ¬ Exceeds E L t

abbrev pub NormalFormAnswer : List Decl → Budget → Tree → Option Tree → Type 0
NormalFormAnswer E L t (Some u) = NormalIs E L t u
NormalFormAnswer E L t None = Exceeds E L t
