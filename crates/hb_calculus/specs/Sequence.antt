-- Reduction sequences, normal forms, and budgets (Rocq manual, "Conversion rules", "weak head normal form").
use Rattle.std.specs.Prelude.{◌≡◌, ℕ, zero, suc, ◌⊎◌, List, Option, Some, None, option_map, option_and_then}
use Rattle.std.specs.Option.{option_or}
use Rattle.hb_tree.specs.Tree.{Tree}
use Rattle.hb_calculus.specs.Declarations.{Decl}
use Rattle.hb_calculus.specs.Budget.{Budget, TooLarge}
use Rattle.hb_calculus.specs.Contraction.{next, next_eta, head_step}

-- a term of the sequence: while steps are taken, and once eta contractions have begun
pub data Stage : Type 0 where
  stepping : (t : Tree) → Stage
  contracting : (t : Tree) → Stage

abbrev pub term_at : Stage → Tree
term_at (stepping t) = t
term_at (contracting t) = t

-- the leftmost outermost step; where none is left, and ever after, the leftmost outermost eta contraction
abbrev pub move : List Decl → Stage → Option Stage
move E (stepping t) = option_or (option_map stepping (next E t)) (option_map contracting (next_eta E t))
move E (contracting t) = option_map contracting (next_eta E t)

-- the rule taken n times
abbrev pub iterate : {A : Type 0} → (A → Option A) → ℕ → A → Option A
iterate rule zero x = Some x
iterate rule (suc n) x = option_and_then rule (iterate rule n x)

-- term n of the sequence of t, if it has so many, and of its part of steps at the head
abbrev pub sequence : List Decl → Tree → ℕ → Option Tree
sequence E t n = option_map term_at (iterate (move E) n (stepping t))

abbrev pub head_sequence : List Decl → Tree → ℕ → Option Tree
head_sequence E t n = iterate (head_step E) n t

-- u is the last term of a sequence
pub record IsLast (terms : ℕ → Option Tree) (u : Tree) : Type 0 where
  pub count : ℕ
  pub at : terms count ≡ Some u
  pub no_more : terms (suc count) ≡ None

-- the normal form, and the weak head form: the first term of the sequence with no step at the head
abbrev pub IsNormalForm : List Decl → Tree → Tree → Type 0
IsNormalForm E t u = IsLast (sequence E t) u

abbrev pub IsHeadForm : List Decl → Tree → Tree → Type 0
IsHeadForm E t u = IsLast (head_sequence E t) u

-- a sequence takes more steps than the budget has, or has a term that is too large for it
abbrev pub Passes : Budget → (ℕ → Option Tree) → Type 0
Passes L terms =
    ((u : Tree) × (terms (suc L.steps) ≡ Some u)) ⊎ ((n : ℕ) × (u : Tree) × (terms n ≡ Some u) × TooLarge L u)

-- the term exceeds the budget on the way to its normal form, and on the way to its weak head form
abbrev pub Exceeds : List Decl → Budget → Tree → Type 0
Exceeds E L t = Passes L (sequence E t)

abbrev pub HeadExceeds : List Decl → Budget → Tree → Type 0
HeadExceeds E L t = Passes L (head_sequence E t)
