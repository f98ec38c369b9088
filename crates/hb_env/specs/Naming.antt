-- Names in an environment.
use Rattle.std.specs.Prelude.{◌≡◌, ℕ, cond, List, ◌++◌, Option, Some, None, slice_get, take}
use Rattle.hb_calculus.specs.Declarations.{Decl, an_axiom, a_definition, a_record, field_names, IsIn, Distinct}
use Rattle.hb_tree.specs.declared.leaves.ConstId.{ConstId}
use Rattle.hb_env.specs.declared.named.Named.{Named}
use Rattle.hb_env.specs.declared.named.Named.TheVariants.{Const, Proj}

-- the name of a constant: that of its declaration, or of the record's maker
abbrev pub const_name : Option Decl → ConstId → Option ℕ
const_name (Some (an_axiom n t)) c = cond c.maker None (Some n)
const_name (Some (a_definition n t b)) c = cond c.maker None (Some n)
const_name (Some (a_record n m ps k fs)) c = cond c.maker (Some m) (Some n)
const_name None c = None

-- the name of field i of a record
abbrev pub field_name : Option Decl → ℕ → Option ℕ
field_name (Some (a_record n m ps k fs)) i = slice_get (field_names fs) i
field_name (Some (an_axiom n t)) i = None
field_name (Some (a_definition n t b)) i = None
field_name None i = None

-- the name of what is declared
abbrev pub name_in : List Decl → Named → Option ℕ
name_in E (Const c) = const_name (slice_get E c.decl) c
name_in E (Proj r i) = field_name (slice_get E r.0) i

-- n is the first of the names ns that is held, or stands earlier among them
pub record IsFirstRepeated (held ns : List ℕ) (n : ℕ) : Type 0 where
  pub at : ℕ
  pub stands : slice_get ns at ≡ Some n
  pub repeated : IsIn n (held ++ take at ns)
  pub before : Distinct (held ++ take at ns)
