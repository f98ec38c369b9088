use Rattle.std.proofs.Common.{◌≡◌, ◌<◌, length, Some, slice_get, ap, arith}
use Rattle.hb_calculus.specs.Declarations.{a_record}
use Rattle.hb_env.specs.Plain.{trees, plain_fields}
use Rattle.hb_env.proofs.ListLemmas.{length_field_types}
use Rattle.hb_record.proofs.FilledLemmas.{record_is, field_is}
use Rattle.hb_record.proofs.projection.field_type.Goals as goal

pub index-requires : goal.index-requires
index-requires c =
    let s = c.in-Some-Record in
    let fs = s.fields.items in
    let o = slice_get c.args.env.now c.args.rec.0 in
    let e : Some (a_record s.field-0-0.0 s.field-0-1.0 (trees s.field-0-2.items) s.field-0-3 (plain_fields fs)) ≡ o = rw s.field-0-is at s.ensures in
    let same = record_is o s.field-0-0.0 s.field-0-1.0 (trees s.field-0-2.items) s.field-0-3 (plain_fields fs) c.requires.0 e c.requires.1 in
    omega (arith, c.requires.2, ap length same, length_field_types fs, c.from.ensures, s.fields.ok)

pub returns : goal.returns
returns c R T h g =
    let s = c.in-Some-Record in
    let fs = s.fields.items in
    let o = slice_get c.args.env.now c.args.rec.0 in
    let e : Some (a_record s.field-0-0.0 s.field-0-1.0 (trees s.field-0-2.items) s.field-0-3 (plain_fields fs)) ≡ o = rw s.field-0-is at s.ensures in
    let same = record_is o s.field-0-0.0 s.field-0-1.0 (trees s.field-0-2.items) s.field-0-3 (plain_fields fs) R e h in
    let old = record_is o s.field-0-0.0 s.field-0-1.0 (trees s.field-0-2.items) s.field-0-3 (plain_fields fs) c.requires.0 e c.requires.1 in
    let l : c.from.result < length fs = omega (arith, c.requires.2, ap length old, length_field_types fs, c.from.ensures) in
    field_is fs c.from.result c.index.result.now T l c.index.ensures (rw (← same, c.from.ensures) g)
