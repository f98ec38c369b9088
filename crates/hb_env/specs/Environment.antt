-- What holds of each environment.
use Rattle.std.specs.Prelude.{ℕ, ◌<◌, ◌≤◌, List, [], ◌∷◌, ◌++◌, length, Option, Some, None}
use Rattle.hb_base.specs.declared.count.Count.{Count}
use Rattle.hb_base.specs.declared.count.Count.TheVariants.{Names, Mixins, Factories, Structures, Declarations, Fields, Nodes, Files}
use Rattle.hb_calculus.specs.Declarations.{Decl, names, Distinct, fields_of, node_count}
use Rattle.hb_calculus.specs.Scope.{IsScopedDecl}

-- each declaration is scoped and has no hole
abbrev pub AreScopedDecls : List Decl → Type 0
AreScopedDecls [] = Unit {0}
AreScopedDecls (d ∷ ds) = IsScopedDecl d × AreScopedDecls ds

-- no record has more than 255 fields
abbrev pub HaveFewFields : List Decl → Type 0
HaveFewFields [] = Unit {0}
HaveFewFields (d ∷ ds) = (fields_of d ≤ 255) × HaveFewFields ds

-- all names differ, terms are scoped, and the counts are within their limits
pub record IsEnvironment (E : List Decl) : Type 0 where
  pub distinct : Distinct (names E)
  pub scoped : AreScopedDecls E
  pub few : length E ≤ 262144
  pub few_fields : HaveFewFields E
  pub few_nodes : node_count E ≤ 40000000

-- the first count that is passed where there are so many declarations, fields of the next, and nodes with it
abbrev pub Passes : (declared fields nodes : ℕ) → Count → Type 0
Passes n f k Declarations = 262144 ≤ n
Passes n f k Fields = (n < 262144) × (255 < f)
Passes n f k Nodes = (n < 262144) × (f ≤ 255) × (40000000 < k)
Passes n f k Names = ⊥
Passes n f k Mixins = ⊥
Passes n f k Factories = ⊥
Passes n f k Structures = ⊥
Passes n f k Files = ⊥

-- the first count that d would pass after the environment E
abbrev pub IsPassed : List Decl → Decl → Count → Type 0
IsPassed E d c = Passes (length E) (fields_of d) (node_count (E ++ d ∷ [])) c

-- no count is passed, or the first that is
abbrev pub CountAnswer : (declared fields nodes : ℕ) → Option Count → Type 0
CountAnswer n f k None = (n < 262144) × (f ≤ 255) × (k ≤ 40000000)
CountAnswer n f k (Some c) = Passes n f k c
