-- What a term may name: variables of its context, and what an environment declares.
use Rattle.std.specs.Prelude.{◌≡◌, ℕ, ◌+◌, ◌<◌, ◌≤◌, false, List, [], ◌∷◌, ◌++◌, length, Some, IsSome, slice_get}
use Rattle.hb_tree.specs.Tree.{Tree, sort, rel, pi, lam, app, const, proj, hole, loose, has_hole}
use Rattle.hb_calculus.specs.Declarations.{Decl, an_axiom, a_definition, a_record, field_types, terms_of, body_in, record_in, Record}
use Rattle.hb_calculus.specs.Telescopes.{type_in}

-- the term has no hole, and its variables are below its binders and the depth n
pub record IsScoped (n : ℕ) (t : Tree) : Type 0 where
  pub variables : loose t ≤ n
  pub holes : has_hole t ≡ false

-- terms, each under one variable more than the one before
abbrev pub AreScoped : ℕ → List Tree → Type 0
AreScoped n [] = Unit {0}
AreScoped n (t ∷ ts) = IsScoped n t × AreScoped (n + 1) ts

-- types and bodies are closed, the types of a record's parameters and fields each under those before
abbrev pub IsScopedDecl : Decl → Type 0
IsScopedDecl (an_axiom n t) = IsScoped 0 t
IsScopedDecl (a_definition n t b) = IsScoped 0 t × IsScoped 0 b
IsScopedDecl (a_record n m ps k fs) = AreScoped 0 (ps ++ field_types fs)

-- field i of the record declared at the place r
abbrev pub IsField : List Decl → ℕ → ℕ → Type 0
IsField E r i = (R : Record) × (record_in (slice_get E r) ≡ Some R) × (i < length R.fields)

-- each constant, maker, record and field that the term names is declared
abbrev pub IsDeclared : List Decl → Tree → Type 0
IsDeclared E (sort s) = Unit {0}
IsDeclared E (rel v) = Unit {0}
IsDeclared E (pi a b) = IsDeclared E a × IsDeclared E b
IsDeclared E (lam a b) = IsDeclared E a × IsDeclared E b
IsDeclared E (app f a) = IsDeclared E f × IsDeclared E a
IsDeclared E (const c) = IsSome (type_in (slice_get E c.decl) c)
IsDeclared E (proj r i t) = IsField E r.0 i × IsDeclared E t
IsDeclared E (hole h) = Unit {0}

abbrev pub AreDeclared : List Decl → List Tree → Type 0
AreDeclared E [] = Unit {0}
AreDeclared E (t ∷ ts) = IsDeclared E t × AreDeclared E ts

-- the bodies of definitions have no variables from outside, as they have where the environment is well formed
abbrev pub AreBodiesClosed : List Decl → Type 0
AreBodiesClosed E = (n : ℕ) (b : Tree) → body_in (slice_get E n) ≡ Some b → loose b ≤ 0

-- each term of a declaration names only what the environment declares
abbrev pub IsDeclaredEnv : List Decl → Type 0
IsDeclaredEnv E = (n : ℕ) (d : Decl) → slice_get E n ≡ Some d → AreDeclared E (terms_of d)
