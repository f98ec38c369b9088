use Rattle.std.proofs.Common.{refl}
use Rattle.hb_strict.proofs.TableLemmas.{line_added, projection_line, at_of}
use Rattle.hb_strict.proofs.table.Table.projection.Goals as goal

pub returns : goal.returns
returns c =
    λ h.
    let w = rw c.in-Some-2.is at c.in_ok-params.ensures in
    let f = at_of w.record_at.fields c.args.field w.has_field in
    let u = rw c.deref.ensures.value at (c.in_ok-ty.ensures w.record_at f.0 w.is_record f.1) in
    line_added c.args.env.now c.args.self.now c.add.new.self _ c.in_ok-add.ensures.contexts c.in_ok-add.ensures.added h
    (projection_line c.args.env.now c.args.self.now c.args.at c.args.rec c.args.field c.in-Some.line.now _ c.in-Some-2.params.items f.0 h c.in-Some.ensures
    w.record_at w.is_record f.1 w.ty w.count refl (rw c.in_ok-copy.ensures at c.in_ok-term.ensures) u)
