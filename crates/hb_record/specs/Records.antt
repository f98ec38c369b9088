-- Records of an environment.
use Rattle.std.specs.Prelude.{◌≡◌, ℕ, ◌<◌, List, length, Some, slice_get}
use Rattle.hb_calculus.specs.Declarations.{Decl, Record, record_in}

-- the declaration at the place is a record
abbrev pub IsRecord : List Decl → (r : ℕ) → Type 0
IsRecord E r = (R : Record) × (record_in (slice_get E r) ≡ Some R)

-- it is a record that has the field
abbrev pub IsField : List Decl → (r field : ℕ) → Type 0
IsField E r i = (R : Record) × (record_in (slice_get E r) ≡ Some R) × (i < length R.fields)
