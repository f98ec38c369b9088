-- The level of a record, and why its types have none.
use Rattle.std.specs.Prelude.{◌≡◌, ℕ, ◌⊎◌, List}
use Rattle.hb_tree.specs.Tree.{Tree}
use Rattle.hb_tree.specs.declared.leaves.Sort.{Sort}
use Rattle.hb_calculus.specs.Declarations.{Decl}
use Rattle.hb_calculus.specs.Budget.{Budget}
use Rattle.hb_calculus.specs.Typing.{extended}
use Rattle.hb_calculus.specs.Inference.{Cause, SortsAre, least_level, NotTypes}
use Rattle.hb_kernel.specs.Places.{types_place}

-- k is the least level above the sorts of the types ts
abbrev pub LevelIs : List Decl → Budget → (G ts : List Tree) → ℕ → Type 0
LevelIs E L G ts k = (ss : List Sort) × SortsAre E L G ts ss × (k ≡ least_level ss)

-- the same of the fields fs behind the parameters ps
abbrev pub TelescopeLevelIs : List Decl → Budget → (G ps fs : List Tree) → ℕ → Type 0
TelescopeLevelIs E L G ps fs k = (ss : List Sort) × SortsAre E L G ps ss × LevelIs E L (extended G ps) fs k

abbrev pub NotTypesAt : List Decl → Budget → (G ts : List Tree) → Cause → ℕ → Type 0
NotTypesAt E L G ts c n = (f : NotTypes E L G ts c) × (types_place f ≡ n)

-- a parameter is no type, or all are and a field is none
abbrev pub NotTelescopeAt : List Decl → Budget → (G ps fs : List Tree) → Cause → ℕ → Type 0
NotTelescopeAt E L G ps fs c n =
    NotTypesAt E L G ps c n ⊎ ((ss : List Sort) × SortsAre E L G ps ss × NotTypesAt E L (extended G ps) fs c n)
