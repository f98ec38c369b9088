use Rattle.std.proofs.Common.{◌≡◌, ◌<◌, length, Some, slice_get, arith}
use Rattle.std.proofs.lemmas.Bool.Decides.{nat_tests}
use Rattle.hb_calculus.specs.Declarations.{a_record}
use Rattle.hb_env.specs.Plain.{trees, plain_fields}
use Rattle.hb_kernel.proofs.KnownLemmas.{has-field, field-within}
use Rattle.hb_kernel.proofs.known.is_field.Goals as goal

pub returns-in-Some-Record : goal.returns-in-Some-Record
returns-in-Some-Record c =
    let s = c.in-Some-Record in
    let fs = s.fields.items in
    let e : Some (a_record s.field-0-0.0 s.field-0-1.0 (trees s.field-0-2.items) s.field-0-3 (plain_fields fs)) ≡ slice_get c.args.env.now c.args.rec.0 = rw s.field-0-is at s.ensures in
    let l : c.len.result ≡ length fs = omega (arith, c.len.ensures, s.fields.ok) in
    let there = has-field c.args.env.now c.args.rec.0 c.args.field s.field-0-0.0 s.field-0-1.0 s.field-0-3 (trees s.field-0-2.items) fs e in
    let back = field-within c.args.env.now c.args.rec.0 c.args.field s.field-0-0.0 s.field-0-1.0 s.field-0-3 (trees s.field-0-2.items) fs e in (
      (λ b. let k : c.from.result < c.len.result = grind (arith, nat_tests, b) in there (omega (arith, k, l, c.from.ensures))),
      (λ h. let g = back h in let k : c.from.result < c.len.result = omega (arith, g, l, c.from.ensures) in grind (arith, nat_tests, k)),
    )
