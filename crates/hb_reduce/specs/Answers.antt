-- What a reduction answers.
use Rattle.std.specs.Prelude.{◌≡◌, List, Result, Ok, Err}
use Rattle.hb_term.specs.declared.scoped.Scoped.{Scoped}
use Rattle.hb_term.specs.Meaning.{tree}
use Rattle.hb_calculus.specs.Declarations.{Decl}
use Rattle.hb_calculus.specs.Budget.{Budget}
use Rattle.hb_calculus.specs.Sequence.{IsNormalForm, IsHeadForm, Exceeds, HeadExceeds}
use Rattle.hb_reduce.specs.declared.error.ReduceRefused.{ReduceRefused}
use Rattle.hb_reduce.specs.declared.error.ReduceRefused.TheVariants.{Spent, NoMemory}

-- the same term in the same scope
pub record IsSame (t u : Scoped) : Type 0 where
  pub term : tree t.term ≡ tree u.term
  pub depth : t.depth ≡ u.depth

-- u is the weak head form of t, in the scope of t, and t doesn't exceed the budget on the way to it
pub record IsHeadOf (E : List Decl) (L : Budget) (t u : Scoped) : Type 0 where
  pub form : IsHeadForm E (tree t.term) (tree u.term)
  pub within : ¬ HeadExceeds E L (tree t.term)
  pub depth : u.depth ≡ t.depth

-- the weak head form, or, exactly where the term exceeds the budget on the way to it, the term
abbrev pub HeadAnswer : List Decl → Budget → Scoped → Result Scoped ReduceRefused → Type 0
HeadAnswer E L t (Ok u) = IsHeadOf E L t u
HeadAnswer E L t (Err (Spent s)) = IsSame s t × HeadExceeds E L (tree t.term)
HeadAnswer E L t (Err NoMemory) = Unit {0}

-- the same of the normal form
pub record IsNormalOf (E : List Decl) (L : Budget) (t u : Scoped) : Type 0 where
  pub form : IsNormalForm E (tree t.term) (tree u.term)
  pub within : ¬ Exceeds E L (tree t.term)
  pub depth : u.depth ≡ t.depth

abbrev pub NormalAnswer : List Decl → Budget → Scoped → Result Scoped ReduceRefused → Type 0
NormalAnswer E L t (Ok u) = IsNormalOf E L t u
NormalAnswer E L t (Err (Spent s)) = IsSame s t × Exceeds E L (tree t.term)
NormalAnswer E L t (Err NoMemory) = Unit {0}
