-- The lines of a declaration, as derivations of strict typing.
use Rattle.std.specs.Prelude.{◌≡◌, ℕ, ◌+◌, ◌<◌, List, [], ◌∷◌, map, length, Option, Some, slice_get}
use Rattle.hb_tree.specs.Tree.{Tree, sort, apply}
use Rattle.hb_tree.specs.declared.leaves.Sort.{Sort}
use Rattle.hb_term.specs.Meaning.{tree}
use Rattle.hb_term.specs.declared.term.Term.{Term}
use Rattle.hb_calculus.specs.Declarations.{Decl, Record, record_in}
use Rattle.hb_calculus.specs.Telescopes.{former}
use Rattle.hb_strict.specs.Strict.{HasStrictType, Leads}
use Rattle.hb_strict.specs.declared.table.Context.{Context}
use Rattle.hb_strict.specs.declared.table.Line.{Line}
use Rattle.hb_strict.specs.declared.table.Table.{Table}

-- the context of the number has these types of its variables, the innermost first
pub data IsContext (cs : List Context) : ℕ → List Tree → Type 0 where
  no_variables : IsContext cs 0 []
  one_more :
      {n : ℕ} {G H : List Tree} (k : ℕ) (c : Context) → slice_get cs k ≡ Some c → IsContext cs c.outer G → H ≡ tree c.ty ∷ G → n ≡ k + 1
      → IsContext cs n H

abbrev pub HasContext : List Context → ℕ → Type 0
HasContext cs n = (G : List Tree) × IsContext cs n G

abbrev pub AreContexts : List Context → Type 0
AreContexts cs = (k : ℕ) (c : Context) → slice_get cs k ≡ Some c → HasContext cs c.outer

-- the line has its type by strict typing
pub record IsLine (E : List Decl) (cs : List Context) (l : Line) : Type 0 where
  pub types : List Tree
  pub context : IsContext cs l.context types
  pub typed : HasStrictType E types (tree l.term) (tree l.ty)

-- the line of the number
abbrev pub IsAt : List (Option Line) → ℕ → Line → Type 0
IsAt ls i l = slice_get ls i ≡ Some (Some l)

abbrev pub AreLines : List Decl → List Context → List (Option Line) → Type 0
AreLines E cs ls = (i : ℕ) (l : Line) → IsAt ls i l → IsLine E cs l

pub record IsTable (E : List Decl) (t : Table) : Type 0 where
  pub contexts : AreContexts t.contexts.items
  pub lines : AreLines E t.contexts.items t.lines.items

-- what holds of a table before holds after
abbrev pub Keeps : Table → Table → Type 0
Keeps t u = (E : List Decl) → IsTable E t → IsTable E u

abbrev pub KeepsIn : List Decl → Table → Table → Type 0
KeepsIn E t u = IsTable E t → IsTable E u

-- the line's type is the sort
pub record IsSorted (t : Table) (i : ℕ) (s : Sort) : Type 0 where
  pub line : Line
  pub at : IsAt t.lines.items i line
  pub is_sort : tree line.ty ≡ sort s

-- the second line stands in the context of the first and its term
pub record IsUnder (t : Table) (i j : ℕ) : Type 0 where
  pub outer : Line
  pub inner : Line
  pub place : ℕ
  pub context : Context
  pub at_outer : IsAt t.lines.items i outer
  pub at_inner : IsAt t.lines.items j inner
  pub number : inner.context ≡ place + 1
  pub at_place : slice_get t.contexts.items place ≡ Some context
  pub same : context.outer ≡ outer.context
  pub ty : tree context.ty ≡ tree outer.term

-- a chain of types leads from the type of the line i to the term of the line j, in the context of both
pub record IsChain (E : List Decl) (t : Table) (i j : ℕ) : Type 0 where
  pub line : Line
  pub last : Line
  pub at_line : IsAt t.lines.items i line
  pub at_last : IsAt t.lines.items j last
  pub same : last.context ≡ line.context
  pub leads : (G : List Tree) → IsContext t.contexts.items line.context G → Leads E G (tree line.ty) (tree last.term)

-- the second line is the type of the first, and a type
abbrev pub IsTypeOf : Table → ℕ → ℕ → Type 0
IsTypeOf t i j = (E : List Decl) → IsTable E t → IsChain E t i j

-- the second line follows from the first
abbrev pub Follows : List Decl → Table → ℕ → ℕ → Type 0
Follows E t i j = IsTable E t → (line : ℕ) → IsChain E t line i → IsChain E t line j

-- the type is the record with these parameters, and has the field
pub record IsRecordType (E : List Decl) (r : ℕ) (i : ℕ) (t : Tree) (qs : List Term) : Type 0 where
  pub record_at : Record
  pub is_record : record_in (slice_get E r) ≡ Some record_at
  pub has_field : i < length record_at.fields
  pub ty : t ≡ apply (former r) (map tree qs)
  pub count : length qs ≡ length record_at.params
