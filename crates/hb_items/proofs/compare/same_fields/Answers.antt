use Rattle.std.proofs.Common.{◌<◌, length, arith}
use Rattle.hb_env.specs.Plain.{plain_field}
use Rattle.hb_items.proofs.CompareLemmas.{apart, not_so, others}
use Rattle.hb_items.proofs.compare.same_fields.Goals as goal

pub returns-then-not-same_field : goal.returns-then-not-same_field
returns-then-not-same_field c =
    let l = c.loop-at-test.true in
    let e = c.if-a-b.false in
    let m : c.loop-at.at < length c.args.b.now = omega (arith, l, e) in
    not_so _ (others plain_field c.args.a.now c.args.b.now c.loop-at.at _ _ l m c.index-a-at.is c.index-b-at.is (apart _ c.same_field.result c.same_field.ensures c.if-not-same_field.true))
