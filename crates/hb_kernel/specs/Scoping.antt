-- What goes before the asks of a declaration: its names, what its terms name, and their size.
use Rattle.std.specs.Prelude.{◌≡◌, ℕ, List, [], ◌∷◌, ◌++◌, length}
use Rattle.hb_tree.specs.Tree.{Tree}
use Rattle.hb_calculus.specs.Declarations.{Decl, an_axiom, a_definition, a_record, names, names_of, Distinct, terms_of}
use Rattle.hb_calculus.specs.Scope.{IsScoped, IsScopedDecl, IsDeclared, AreDeclared}
use Rattle.hb_calculus.specs.Budget.{Budget, TooLarge}

-- the variables of the term are among n, it has no hole, and it names only what is declared
pub record IsKnown (E : List Decl) (n : ℕ) (t : Tree) : Type 0 where
  pub scoped : IsScoped n t
  pub declared : IsDeclared E t

-- the same of the terms of a declaration, of a record each under those before it
pub record IsKnownDecl (E : List Decl) (d : Decl) : Type 0 where
  pub scoped : IsScopedDecl d
  pub declared : AreDeclared E (terms_of d)

-- how many variables term i of the declaration stands under
abbrev pub scope_at : Decl → ℕ → ℕ
scope_at (an_axiom n t) i = 0
scope_at (a_definition n t b) i = 0
scope_at (a_record n m ps k fs) i = i

-- no term is too large
abbrev pub AreFit : Budget → List Tree → Type 0
AreFit L [] = Unit {0}
AreFit L (t ∷ ts) = (¬ TooLarge L t) × AreFit L ts

-- the first term of the declaration that is too large; it stands under n variables
pub record IsFirstTooLarge (L : Budget) (d : Decl) (n : ℕ) (t : Tree) : Type 0 where
  pub before : List Tree
  pub behind : List Tree
  pub stands : terms_of d ≡ before ++ t ∷ behind
  pub under : n ≡ scope_at d (length before)
  pub fit : AreFit L before
  pub large : TooLarge L t

-- no name of the declaration is declared or stands twice in it
abbrev pub HasNewNames : List Decl → Decl → Type 0
HasNewNames E d = Distinct (names E ++ names_of d)

-- its names are new, its terms name only what they may, and none is too large
pub record IsReady (E : List Decl) (L : Budget) (d : Decl) : Type 0 where
  pub new : HasNewNames E d
  pub known : IsKnownDecl E d
  pub fit : AreFit L (terms_of d)
