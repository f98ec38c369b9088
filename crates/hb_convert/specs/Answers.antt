-- What a comparison answers.
use Rattle.std.specs.Prelude.{◌≡◌, ◌⊎◌, List, Result, Ok, Err}
use Rattle.hb_tree.specs.Tree.{Tree}
use Rattle.hb_term.specs.declared.scoped.Scoped.{Scoped}
use Rattle.hb_term.specs.Meaning.{tree}
use Rattle.hb_calculus.specs.Declarations.{Decl}
use Rattle.hb_calculus.specs.Conversion.{Convertible, Below, Ordered}
use Rattle.hb_calculus.specs.Budget.{Budget}
use Rattle.hb_calculus.specs.Sequence.{IsNormalForm, Exceeds}
use Rattle.hb_reduce.specs.Answers.{IsSame}
use Rattle.hb_reduce.specs.declared.error.ReduceRefused.{ReduceRefused}
use Rattle.hb_reduce.specs.declared.error.ReduceRefused.TheVariants.{Spent, NoMemory}
use Rattle.hb_convert.specs.declared.verdict.Verdict.{Verdict}
use Rattle.hb_convert.specs.declared.verdict.Verdict.TheVariants.{Yes, No}

-- both normal forms are reached within the budget, and aren't related
pub record AreApart (R : Tree → Tree → Type 0) (E : List Decl) (L : Budget) (a b : Tree) : Type 0 where
  pub within_first : ¬ Exceeds E L a
  pub within_second : ¬ Exceeds E L b
  pub first : Tree
  pub second : Tree
  pub first_is : IsNormalForm E a first
  pub second_is : IsNormalForm E b second
  pub apart : ¬ R first second

-- s is the first of the two terms that exceeds the budget
abbrev pub IsFirstSpent : List Decl → Budget → (a b s : Scoped) → Type 0
IsFirstSpent E L a b s =
    (IsSame s a × Exceeds E L (tree a.term))
    ⊎ ((¬ Exceeds E L (tree a.term)) × IsSame s b × Exceeds E L (tree b.term))

abbrev pub ConvertAnswer : List Decl → Budget → Scoped → Scoped → Result Verdict ReduceRefused → Type 0
ConvertAnswer E L a b (Ok Yes) = Convertible E (tree a.term) (tree b.term)
ConvertAnswer E L a b (Ok No) = AreApart (λ x y. x ≡ y) E L (tree a.term) (tree b.term)
ConvertAnswer E L a b (Err (Spent s)) = IsFirstSpent E L a b s
ConvertAnswer E L a b (Err NoMemory) = Unit {0}

abbrev pub BelowAnswer : List Decl → Budget → Scoped → Scoped → Result Verdict ReduceRefused → Type 0
BelowAnswer E L a b (Ok Yes) = Below E (tree a.term) (tree b.term)
BelowAnswer E L a b (Ok No) = AreApart Ordered E L (tree a.term) (tree b.term)
BelowAnswer E L a b (Err (Spent s)) = IsFirstSpent E L a b s
BelowAnswer E L a b (Err NoMemory) = Unit {0}

-- Yes, if memory is there
abbrev pub IsYes : Result Verdict ReduceRefused → Type 0
IsYes (Ok Yes) = Unit {0}
IsYes (Ok No) = ⊥
IsYes (Err (Spent s)) = ⊥
IsYes (Err NoMemory) = Unit {0}
