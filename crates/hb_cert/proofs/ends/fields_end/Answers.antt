use Rattle.std.proofs.Common.{◌≡◌, ◌<◌, length, get_or, take, rules}
use Rattle.hb_cert.proofs.EndLemmas.{fields_more, taken_all}
use Rattle.hb_cert.proofs.ends.fields_end.Goals as goal

pub loop-field-init : goal.loop-field-init
loop-field-init c = λ E h G n. (tt, n)

pub loop-field-preserved : goal.loop-field-preserved
loop-field-preserved c =
    let lt : c.loop-field.field-index < length c.args.fields.now = search rules in
    let e : c.field-item.result ≡ get_or c.args.fields.now c.loop-field.field-index c.field-item.result = search (rules, c.field-item.is) in
    fields_more c.args.table.now c.args.last c.args.level c.args.fields.now c.loop-field.field-index c.field-item.result c.loop-field.before c.in_ok-end.field-0 lt e
    c.loop-field.invariant c.in_ok-end.ensures

pub returns : goal.returns
returns c =
    let e : take c.loop-field.field-index c.args.fields.now ≡ c.args.fields.now = taken_all c.args.fields.now c.loop-field.field-index c.loop-field-test.false in
    λ E h G n. (rw e at (c.loop-field.invariant E h G n)).0
