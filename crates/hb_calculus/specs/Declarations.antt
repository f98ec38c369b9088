-- Declarations and environments (Rocq manual, "Typing rules", "Global environment").
use Rattle.std.specs.Prelude.{◌≡◌, ℕ, ◌+◌, ◌⊎◌, List, [], ◌∷◌, ◌++◌, length, Option, Some, None}
use Rattle.hb_tree.specs.Tree.{Tree, nodes}

-- A declaration, with its name as a number. A record has a constructor, its maker, and types of
-- parameters and fields, each under those before it; a field is its name with its type.
pub data Decl : Type 0 where
  an_axiom : (name : ℕ) → (type_is : Tree) → Decl
  a_definition : (name : ℕ) → (type_is body : Tree) → Decl
  a_record : (name maker : ℕ) → (params : List Tree) → (level : ℕ) → (fields : List (ℕ × Tree)) → Decl

-- An environment is the list of its declarations; declaration n stands at the place n.

-- the types of fields, and their names
abbrev pub field_types : List (ℕ × Tree) → List Tree
field_types [] = []
field_types (f ∷ fs) = f.1 ∷ field_types fs

abbrev pub field_names : List (ℕ × Tree) → List ℕ
field_names [] = []
field_names (f ∷ fs) = f.0 ∷ field_names fs

-- the names that a declaration declares, in order: its own, the maker's, the fields'
abbrev pub names_of : Decl → List ℕ
names_of (an_axiom n t) = n ∷ []
names_of (a_definition n t b) = n ∷ []
names_of (a_record n m ps k fs) = n ∷ m ∷ field_names fs

abbrev pub names : List Decl → List ℕ
names [] = []
names (d ∷ ds) = names_of d ++ names ds

-- n stands in the list
abbrev pub IsIn : ℕ → List ℕ → Type 0
IsIn n [] = ⊥
IsIn n (m ∷ ms) = (n ≡ m) ⊎ IsIn n ms

-- no name stands twice
abbrev pub Distinct : List ℕ → Type 0
Distinct [] = Unit {0}
Distinct (n ∷ ns) = (¬ IsIn n ns) × Distinct ns

-- the terms of a declaration, in order
abbrev pub terms_of : Decl → List Tree
terms_of (an_axiom n t) = t ∷ []
terms_of (a_definition n t b) = t ∷ b ∷ []
terms_of (a_record n m ps k fs) = ps ++ field_types fs

-- how many fields, and how many nodes, a list of declarations has
abbrev pub all_nodes : List Tree → ℕ
all_nodes [] = 0
all_nodes (t ∷ ts) = nodes t + all_nodes ts

abbrev pub fields_of : Decl → ℕ
fields_of (an_axiom n t) = 0
fields_of (a_definition n t b) = 0
fields_of (a_record n m ps k fs) = length fs

abbrev pub field_count : List Decl → ℕ
field_count [] = 0
field_count (d ∷ ds) = fields_of d + field_count ds

abbrev pub node_count : List Decl → ℕ
node_count [] = 0
node_count (d ∷ ds) = all_nodes (terms_of d) + node_count ds

-- the body of a definition
abbrev pub body_in : Option Decl → Option Tree
body_in (Some (a_definition n t b)) = Some b
body_in (Some (an_axiom n t)) = None
body_in (Some (a_record n m ps k fs)) = None
body_in None = None

-- what typing knows of a record: the types of its parameters, its level, the types of its fields
pub record Record : Type 0 where
  pub params : List Tree
  pub level : ℕ
  pub fields : List Tree

abbrev pub record_in : Option Decl → Option Record
record_in (Some (a_record n m ps k fs)) = Some (record { params = ps; level = k; fields = field_types fs })
record_in (Some (an_axiom n t)) = None
record_in (Some (a_definition n t b)) = None
record_in None = None
