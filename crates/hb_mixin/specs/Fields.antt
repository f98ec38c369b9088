-- Fields under their whole names.
use Rattle.std.specs.Prelude.{◌≡◌, ℕ, List, length, take}
use Rattle.hb_base.specs.declared.name_id.NameId.{NameId}
use Rattle.hb_calculus.specs.Declarations.{field_names}
use Rattle.hb_env.specs.Plain.{plain_fields}
use Rattle.hb_mixin.specs.Naming.{AreFieldNames}
use Rattle.hb_term.specs.declared.term.Term.{Term}

-- the fields have the short names, as fields of n
abbrev pub AreNamesOf : List (List ℕ) → NameId → List NameId → List (NameId × Term) → Type 0
AreNamesOf N n shorts fields = AreFieldNames N n shorts (field_names (plain_fields fields))

-- as many of the first fields have the short names as there are
abbrev pub AreFirstNames : List (List ℕ) → NameId → List NameId → List (NameId × Term) → Type 0
AreFirstNames N n shorts fields = AreNamesOf N n shorts (take (length shorts) fields)
