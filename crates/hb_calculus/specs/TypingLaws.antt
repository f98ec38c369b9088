-- Laws of typing and of inferred types.
use Rattle.std.specs.Prelude.{◌≡◌, ℕ, ◌≤◌, ◌↔◌, List, length, Some, slice_get}
use Rattle.hb_tree.specs.Tree.{Tree, sort}
use Rattle.hb_tree.specs.declared.leaves.Sort.{Sort}
use Rattle.hb_tree.specs.declared.leaves.Sort.TheVariants.{Level}
use Rattle.hb_calculus.specs.Declarations.{Decl}
use Rattle.hb_calculus.specs.Scope.{IsScoped, IsDeclared}
use Rattle.hb_calculus.specs.Conversion.{IsSortBelow}
use Rattle.hb_calculus.specs.Typing.{HasType, IsTyped}
use Rattle.hb_calculus.specs.Budget.{Budget}
use Rattle.hb_calculus.specs.Inference.{Infers, SortIs, Checks, Accepts, least_level}

-- a typed term is scoped in its context, has no hole, and names only what is declared
abbrev pub TypedIsScoped : Type 0
TypedIsScoped = (E : List Decl) (G : List Tree) (t u : Tree) → HasType E G t u → IsScoped (length G) t × IsDeclared E t

-- an inferred type is a type of the term
abbrev pub InferredIsTyped : Type 0
InferredIsTyped = (E : List Decl) (L : Budget) (G : List Tree) (t u : Tree) → Infers E L G t u → HasType E G t u

abbrev pub SortIsTyped : Type 0
SortIsTyped = (E : List Decl) (L : Budget) (G : List Tree) (t : Tree) (s : Sort) → SortIs E L G t s → HasType E G t (sort s)

-- a term that is checked against a type has it
abbrev pub CheckedIsTyped : Type 0
CheckedIsTyped = (E : List Decl) (L : Budget) (G : List Tree) (t u : Tree) → Checks E L G t u → HasType E G t u

-- a declaration that passes its asks is typed
abbrev pub AcceptedIsTyped : Type 0
AcceptedIsTyped = (E : List Decl) (L : Budget) (d : Decl) → Accepts E L d → IsTyped E d

-- the level of a record is the least that is above the sort of each field
abbrev pub LevelIsLeast : Type 0
LevelIsLeast =
    (ss : List Sort) (k : ℕ) → (least_level ss ≤ k) ↔ ((i : ℕ) (s : Sort) → slice_get ss i ≡ Some s → IsSortBelow s (Level k))
