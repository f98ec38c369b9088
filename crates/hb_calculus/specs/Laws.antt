-- Laws of steps, of reduction sequences, and of the order of normal forms.
use Rattle.std.specs.Prelude.{◌≡◌, ℕ, ◌<◌, ◌↔◌, true, List, Some, None, IsSome}
use Rattle.hb_tree.specs.Tree.{Tree}
use Rattle.hb_calculus.specs.Declarations.{Decl}
use Rattle.hb_calculus.specs.Step.{Contracts, Step, Steps}
use Rattle.hb_calculus.specs.Conversion.{EtaContracts, Convertible, Below, Ordered}
use Rattle.hb_calculus.specs.Contraction.{contract, next, head_step, same_tree, eta_of}
use Rattle.hb_calculus.specs.Sequence.{sequence, head_sequence, IsNormalForm, IsHeadForm}

-- the function that contracts gives what the three rules give
abbrev pub ContractIsRule : Type 0
ContractIsRule = (E : List Decl) (t u : Tree) → (contract E t ≡ Some u) ↔ Contracts E t u

-- the function that contracts by eta gives what the two eta rules give
abbrev pub EtaIsRule : Type 0
EtaIsRule = (E : List Decl) (t u : Tree) → (eta_of E t ≡ Some u) ↔ EtaContracts E t u

-- the test of equal terms tells them
abbrev pub SameTreeTells : Type 0
SameTreeTells = (t u : Tree) → (same_tree t u ≡ true) ↔ (t ≡ u)

-- the leftmost outermost step is a step
abbrev pub NextIsStep : Type 0
NextIsStep = (E : List Decl) (t u : Tree) → next E t ≡ Some u → Step E t u

-- where there is no leftmost outermost step, there is no step at any place
abbrev pub NoNextIsNormal : Type 0
NoNextIsNormal = (E : List Decl) (t u : Tree) → next E t ≡ None → ¬ Step E t u

-- a step at the head is the leftmost outermost step
abbrev pub HeadStepIsNext : Type 0
HeadStepIsNext = (E : List Decl) (t u : Tree) → head_step E t ≡ Some u → next E t ≡ Some u

-- every term of the sequence is convertible with the first
abbrev pub SequenceConverts : Type 0
SequenceConverts = (E : List Decl) (t u : Tree) (n : ℕ) → sequence E t n ≡ Some u → Convertible E t u

-- the terms on the way to the weak head form are reached by steps, and are those of the sequence
abbrev pub HeadSequenceSteps : Type 0
HeadSequenceSteps = (E : List Decl) (t u : Tree) (n : ℕ) → head_sequence E t n ≡ Some u → Steps E t u

abbrev pub HeadSequenceIsPrefix : Type 0
HeadSequenceIsPrefix = (E : List Decl) (t u : Tree) (n : ℕ) → head_sequence E t n ≡ Some u → sequence E t n ≡ Some u

-- u is the first term of the sequence of t that has no step at the head
pub record IsFirstHeadless (E : List Decl) (t u : Tree) : Type 0 where
  pub place : ℕ
  pub at : sequence E t place ≡ Some u
  pub headless : head_step E u ≡ None
  pub first : (m : ℕ) (w : Tree) → m < place → sequence E t m ≡ Some w → IsSome (head_step E w)

-- the weak head form is that term
abbrev pub HeadFormIsFirst : Type 0
HeadFormIsFirst = (E : List Decl) (t u : Tree) → IsHeadForm E t u ↔ IsFirstHeadless E t u

-- a term has one normal form, and one weak head form, at most
abbrev pub NormalFormIsOne : Type 0
NormalFormIsOne = (E : List Decl) (t u v : Tree) → IsNormalForm E t u → IsNormalForm E t v → u ≡ v

abbrev pub HeadFormIsOne : Type 0
HeadFormIsOne = (E : List Decl) (t u v : Tree) → IsHeadForm E t u → IsHeadForm E t v → u ≡ v

-- normal forms in order are below each other
abbrev pub OrderedIsBelow : Type 0
OrderedIsBelow = (E : List Decl) (t u : Tree) → Ordered t u → Below E t u
