use Rattle.std.proofs.Common.{arith, length, ◌<◌, ◌-◌}
use Rattle.hb_calculus.specs.Declarations.{names_of}
use Rattle.hb_env.specs.Plain.{plain}
use Rattle.hb_env.proofs.ListLemmas.{length_field_names, field_name_at}
use Rattle.hb_env.proofs.decl.Decl.name_at.Goals as goal

pub index-requires : goal.index-requires
index-requires c =
    let h : c.args.at < length (names_of (plain c.args.self.now)) = c.requires in
    let r = rw c.in-Record.is at h in
    omega (arith, r, length_field_names c.in-Record.fields.items, c.in-Record.fields.ok)

pub returns-else-at-eq1 : goal.returns-else-at-eq1
returns-else-at-eq1 c =
    let h : c.args.at < length (names_of (plain c.args.self.now)) = c.requires in
    let r = rw c.in-Record.is at h in
    let fs = c.in-Record.fields.items in
    let l : c.args.at - 2 < length fs = omega (arith, r, length_field_names fs) in
    rw
    c.in-Record.is
    (field_name_at c.in-Record.name.0 c.in-Record.maker.0 fs c.args.at c.index.result.now c.if-at-eq0.false c.if-at-eq1.false l c.index.ensures)
