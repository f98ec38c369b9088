-- The ending lines of a declaration.
use Rattle.std.specs.Prelude.{◌≡◌, ℕ, List, [], ◌∷◌, Option, Some, None}
use Rattle.hb_tree.specs.Tree.{Tree, sort}
use Rattle.hb_tree.specs.declared.leaves.Sort.{Sort}
use Rattle.hb_term.specs.Meaning.{tree}
use Rattle.hb_calculus.specs.Declarations.{Decl}
use Rattle.hb_calculus.specs.Conversion.{IsSortBelow}
use Rattle.hb_strict.specs.Strict.{HasStrictType, IsStrictType, AreStrictTypes, AreStrictTypesBelow, IsStrict}
use Rattle.hb_calculus.specs.Typing.{extended}
use Rattle.hb_strict.specs.Tables.{IsContext, IsAt, IsTable}
use Rattle.hb_strict.specs.declared.table.Line.{Line}
use Rattle.hb_strict.specs.declared.table.Table.{Table}

-- the line stands in the context of the types H, so that G are these with its term
pub record IsAfterLine (t : Table) (b : ℕ) (G : List Tree) : Type 0 where
  pub line : Line
  pub types : List Tree
  pub at : IsAt t.lines.items b line
  pub context : IsContext t.contexts.items line.context types
  pub next : G ≡ tree line.term ∷ types

-- the types of the variables of the next ending line, after the one before it
abbrev pub NextTypes : Table → Option ℕ → List Tree → Type 0
NextTypes t None G = G ≡ []
NextTypes t (Some b) G = IsAfterLine t b G

-- a sort is at most another, if there is one
abbrev pub IsAtMost : Sort → Option Sort → Type 0
IsAtMost s None = Unit {0}
IsAtMost s (Some most) = IsSortBelow s most

pub record IsTypeEnd (E : List Decl) (t : Table) (G : List Tree) (ty : Tree) (most : Option Sort) (i : ℕ) : Type 0 where
  pub sort_is : Sort
  pub typed : HasStrictType E G ty (sort sort_is)
  pub below : IsAtMost sort_is most
  pub next : NextTypes t (Some i) (ty ∷ G)

-- the line i ends the type after the line before it
abbrev pub EndsType : Table → Option ℕ → Tree → Option Sort → ℕ → Type 0
EndsType t before ty most i = (E : List Decl) → IsTable E t → (G : List Tree) → NextTypes t before G → IsTypeEnd E t G ty most i

abbrev pub EndsClosed : Table → Tree → Type 0
EndsClosed t ty = (E : List Decl) → IsTable E t → IsStrictType E [] ty

abbrev pub EndsBody : Table → Tree → Tree → Type 0
EndsBody t body ty = (E : List Decl) → IsTable E t → HasStrictType E [] body ty

abbrev pub EndsParams : Table → List Tree → Option ℕ → Type 0
EndsParams t ps b = (E : List Decl) → IsTable E t → AreStrictTypes E [] ps × NextTypes t b (extended [] ps)

-- the fields so far, under the types G, and the context of the next one
abbrev pub EndFields : Table → Option ℕ → ℕ → List Tree → Option ℕ → Type 0
EndFields t before k fs b =
    (E : List Decl) → IsTable E t → (G : List Tree) → NextTypes t before G → AreStrictTypesBelow E k G fs × NextTypes t b (extended G fs)

abbrev pub EndsFields : Table → Option ℕ → ℕ → List Tree → Type 0
EndsFields t before k fs = (E : List Decl) → IsTable E t → (G : List Tree) → NextTypes t before G → AreStrictTypesBelow E k G fs

-- the ending lines are those of the declaration
abbrev pub EndsDecl : Table → Decl → Type 0
EndsDecl t d = (E : List Decl) → IsTable E t → IsStrict E d
