-- Fields of records.
use Rattle.std.proofs.Common.{◌≡◌, ℕ, ◌<◌, List, length, sym, ap, arith}
use Rattle.std.specs.Prelude.{Some, slice_get}
use Rattle.hb_base.specs.declared.name_id.NameId.{NameId}
use Rattle.hb_term.specs.declared.term.Term.{Term}
use Rattle.hb_tree.specs.Tree.{Tree}
use Rattle.hb_calculus.specs.Declarations.{Decl, a_record, record_in, field_types}
use Rattle.hb_calculus.specs.Scope.{IsField}
use Rattle.hb_env.specs.Plain.{plain_fields}
use Rattle.hb_env.proofs.ListLemmas.{length_field_types}
use Rattle.hb_record.proofs.FilledLemmas.{record_is}

pub has-field : (E : List Decl) (r i n m k : ℕ) (ps : List Tree) (fs : List (NameId × Term)) → Some (a_record n m ps k (plain_fields fs)) ≡ slice_get E r → i < length fs → IsField E r i
has-field E r i n m k ps fs e h =
    let l = length_field_types fs in
    (record { params = ps; level = k; fields = field_types (plain_fields fs) }, ap record_in (sym e), (let g : i < length (field_types (plain_fields fs)) = omega arith in g))

pub field-within : (E : List Decl) (r i n m k : ℕ) (ps : List Tree) (fs : List (NameId × Term)) → Some (a_record n m ps k (plain_fields fs)) ≡ slice_get E r → IsField E r i → i < length fs
field-within E r i n m k ps fs e h =
    let l = length_field_types fs in
    let same = record_is (slice_get E r) n m ps k (plain_fields fs) h.0 e h.1 in
    let q = ap length same in
    let g = h.2 in
    omega arith
