-- Laws of environments: derivations in longer ones, and what a well formed one declares.
use Rattle.std.specs.Prelude.{◌≡◌, ℕ, List, [], ◌∷◌, ◌++◌, Some, slice_get}
use Rattle.hb_tree.specs.Tree.{Tree}
use Rattle.hb_calculus.specs.Declarations.{Decl, names, Distinct}
use Rattle.hb_calculus.specs.Scope.{IsScopedDecl, IsDeclared, AreDeclared, IsDeclaredEnv, AreBodiesClosed}
use Rattle.hb_calculus.specs.Step.{Step}
use Rattle.hb_calculus.specs.Conversion.{Convertible, Below}
use Rattle.hb_calculus.specs.Typing.{HasType, IsTyped, WellFormed}
use Rattle.hb_calculus.specs.Budget.{Budget}
use Rattle.hb_calculus.specs.Inference.{Infers}

-- what holds in an environment, holds in every longer one
abbrev pub StepInLonger : Type 0
StepInLonger = (E F : List Decl) (t u : Tree) → Step E t u → Step (E ++ F) t u

abbrev pub ConvertibleInLonger : Type 0
ConvertibleInLonger = (E F : List Decl) (t u : Tree) → Convertible E t u → Convertible (E ++ F) t u

abbrev pub BelowInLonger : Type 0
BelowInLonger = (E F : List Decl) (t u : Tree) → Below E t u → Below (E ++ F) t u

abbrev pub TypedInLonger : Type 0
TypedInLonger = (E F : List Decl) (G : List Tree) (t u : Tree) → HasType E G t u → HasType (E ++ F) G t u

-- so does the inferred type of a term, where all that is named is declared: else a longer environment
-- could have a step more
abbrev pub InferredInLonger : Type 0
InferredInLonger =
    (E F : List Decl) (L : Budget) (G : List Tree) (t u : Tree) → IsDeclaredEnv E → AreDeclared E G → IsDeclared E t
    → Infers E L G t u → Infers (E ++ F) L G t u

-- the empty environment is well formed, and so is every prefix of a well formed one
abbrev pub EmptyIsWellFormed : Type 0
EmptyIsWellFormed = WellFormed []

abbrev pub PrefixIsWellFormed : Type 0
PrefixIsWellFormed = (E F : List Decl) → WellFormed (E ++ F) → WellFormed E

-- a well formed environment with a typed declaration of new names at its end is well formed
abbrev pub PushIsWellFormed : Type 0
PushIsWellFormed = (E : List Decl) (d : Decl) → WellFormed E → IsTyped E d → Distinct (names (E ++ d ∷ [])) → WellFormed (E ++ d ∷ [])

-- what a well formed environment declares is typed in it, scoped, and names only what it declares
pub record IsSettled (E : List Decl) (d : Decl) : Type 0 where
  pub typed : IsTyped E d
  pub scoped : IsScopedDecl d

abbrev pub WellFormedIsSettled : Type 0
WellFormedIsSettled = (E : List Decl) → WellFormed E → (n : ℕ) (d : Decl) → slice_get E n ≡ Some d → IsSettled E d

abbrev pub WellFormedIsDeclared : Type 0
WellFormedIsDeclared = (E : List Decl) → WellFormed E → IsDeclaredEnv E

abbrev pub WellFormedIsClosed : Type 0
WellFormedIsClosed = (E : List Decl) → WellFormed E → AreBodiesClosed E
