-- Laws of conversion and cumulativity where variables are lifted or substituted.
use Rattle.std.specs.Prelude.{ℕ, List}
use Rattle.hb_tree.specs.Tree.{Tree, lift, subst_at}
use Rattle.hb_calculus.specs.Declarations.{Decl}
use Rattle.hb_calculus.specs.Scope.{AreBodiesClosed}
use Rattle.hb_calculus.specs.Conversion.{Convertible, Below}

-- conversion and cumulativity are kept by lifting
abbrev pub ConvertibleLifts : Type 0
ConvertibleLifts = (E : List Decl) (t u : Tree) (n k : ℕ) → AreBodiesClosed E → Convertible E t u → Convertible E (lift t n k) (lift u n k)

abbrev pub BelowLifts : Type 0
BelowLifts = (E : List Decl) (t u : Tree) (n k : ℕ) → AreBodiesClosed E → Below E t u → Below E (lift t n k) (lift u n k)

-- convertible terms stay so where convertible values are put in for a variable
abbrev pub ConvertibleSubstitutes : Type 0
ConvertibleSubstitutes =
    (E : List Decl) (t u v w : Tree) (k : ℕ) → AreBodiesClosed E → Convertible E t u → Convertible E v w
    → Convertible E (subst_at t v k) (subst_at u w k)

-- cumulativity is kept where one value is put in
abbrev pub BelowSubstitutes : Type 0
BelowSubstitutes = (E : List Decl) (t u v : Tree) (k : ℕ) → AreBodiesClosed E → Below E t u → Below E (subst_at t v k) (subst_at u v k)
