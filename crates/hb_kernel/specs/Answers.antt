-- What the kernel answers.
use Rattle.std.specs.Prelude.{◌≡◌, ℕ, ◌⊎◌, List, length}
use Rattle.hb_tree.specs.Tree.{Tree}
use Rattle.hb_term.specs.Meaning.{tree}
use Rattle.hb_term.specs.declared.scoped.Scoped.{Scoped}
use Rattle.hb_calculus.specs.Declarations.{Decl, names, names_of}
use Rattle.hb_calculus.specs.Budget.{Budget}
use Rattle.hb_calculus.specs.Inference.{Cause, not_function, not_sort, not_record, not_convertible, level_too_high, spent, Fails, NotChecked, Accepts, Refuses}
use Rattle.hb_env.specs.Naming.{IsFirstRepeated}
use Rattle.hb_env.specs.Environment.{IsPassed}
use Rattle.hb_kernel.specs.Scoping.{IsKnown, IsKnownDecl, HasNewNames, IsReady, IsFirstTooLarge}
use Rattle.hb_kernel.specs.Places.{place, check_place, refuse_place}
use Rattle.hb_kernel.specs.declared.error.KernelRefused.{KernelRefused}
use Rattle.hb_kernel.specs.declared.error.KernelRefused.TheVariants.{Redeclared, NotFunction, NotSort, NotRecord, NotConvertible, Unscoped, LevelTooHigh, Spent, TooMany, NoMemory}

-- the recipe for types fails with the cause, at a place of n variables: in a term, in the check of a term
-- against a type, in a declaration
abbrev pub FailsAt : List Decl → Budget → List Tree → Tree → Cause → ℕ → Type 0
FailsAt E L G t c n = (f : Fails E L G t c) × (place f ≡ n)

abbrev pub NotCheckedAt : List Decl → Budget → List Tree → (t u : Tree) → Cause → ℕ → Type 0
NotCheckedAt E L G t u c n = (f : NotChecked E L G t u c) × (check_place f ≡ n)

abbrev pub RefusesAt : List Decl → Budget → Decl → Cause → ℕ → Type 0
RefusesAt E L d c n = (f : Refuses E L d c) × (refuse_place f ≡ n)

-- the refusal of an ask names the cause, and keeps its terms in the scope of its place; `unknown` is the
-- cause of Unscoped
abbrev pub IsRefusal : (unknown : Type 0) → (fails : Cause → ℕ → Type 0) → KernelRefused → Type 0
IsRefusal unknown fails (NotFunction w) = fails (not_function (tree w.term)) w.depth
IsRefusal unknown fails (NotSort w) = fails (not_sort (tree w.term)) w.depth
IsRefusal unknown fails (NotRecord w) = fails (not_record (tree w.term)) w.depth
IsRefusal unknown fails (NotConvertible x y) =
    fails (not_convertible (tree x.term) (tree y.term)) x.depth × (y.depth ≡ x.depth)
IsRefusal unknown fails LevelTooHigh = (n : ℕ) × fails level_too_high n
IsRefusal unknown fails (Spent t) = fails (spent (tree t.term)) t.depth
IsRefusal unknown fails Unscoped = unknown
IsRefusal unknown fails NoMemory = Unit {0}
IsRefusal unknown fails (Redeclared n) = ⊥
IsRefusal unknown fails (TooMany c) = ⊥

-- why the term has no inferred type under the types G of the variables
abbrev pub InferRefusal : List Decl → Budget → List Tree → Tree → KernelRefused → Type 0
InferRefusal E L G t e = IsRefusal (¬ IsKnown E (length G) t) (λ c n. IsKnown E (length G) t × FailsAt E L G t c n) e

-- both may be looked at
abbrev pub AreKnown : List Decl → ℕ → (t u : Tree) → Type 0
AreKnown E n t u = IsKnown E n t × IsKnown E n u

-- why the term is not checked against the type u
abbrev pub CheckRefusal : List Decl → Budget → List Tree → (t u : Tree) → KernelRefused → Type 0
CheckRefusal E L G t u e =
    IsRefusal (¬ AreKnown E (length G) t u) (λ c n. AreKnown E (length G) t u × NotCheckedAt E L G t u c n) e

-- the declaration passes all that comes before its asks, and an ask of its own fails
abbrev pub AskRefused : List Decl → Budget → Decl → Cause → ℕ → Type 0
AskRefused E L d c n = IsReady E L d × RefusesAt E L d c n

-- a term of the declaration is too large
abbrev pub IsOversized : List Decl → Budget → Decl → Scoped → Type 0
IsOversized E L d t = HasNewNames E d × IsKnownDecl E d × IsFirstTooLarge L d t.depth (tree t.term)

-- why the declaration is not added: a name that is declared, then what its terms may not name, then a term
-- that is too large, then its asks, then a count
abbrev pub AddRefusal : List Decl → Budget → Decl → KernelRefused → Type 0
AddRefusal E L d (Redeclared n) = IsFirstRepeated (names E) (names_of d) n.0
AddRefusal E L d Unscoped = HasNewNames E d × ¬ IsKnownDecl E d
AddRefusal E L d (Spent t) = IsOversized E L d t ⊎ AskRefused E L d (spent (tree t.term)) t.depth
AddRefusal E L d (NotFunction w) = AskRefused E L d (not_function (tree w.term)) w.depth
AddRefusal E L d (NotSort w) = AskRefused E L d (not_sort (tree w.term)) w.depth
AddRefusal E L d (NotRecord w) = AskRefused E L d (not_record (tree w.term)) w.depth
AddRefusal E L d (NotConvertible x y) =
    AskRefused E L d (not_convertible (tree x.term) (tree y.term)) x.depth × (y.depth ≡ x.depth)
AddRefusal E L d LevelTooHigh = (n : ℕ) × AskRefused E L d level_too_high n
AddRefusal E L d (TooMany c) = IsReady E L d × Accepts E L d × IsPassed E d c
AddRefusal E L d NoMemory = Unit {0}
