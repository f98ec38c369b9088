use Rattle.std.proofs.Common.{◌<◌, length, arith}
use Rattle.hb_term.specs.Meaning.{tree}
use Rattle.hb_items.proofs.CompareLemmas.{apart, not_so, others}
use Rattle.hb_items.proofs.compare.same_params.Goals as goal

pub returns-then-not-same : goal.returns-then-not-same
returns-then-not-same c =
    let l = c.loop-at-test.true in
    let e = c.if-a-b.false in
    let m : c.loop-at.at < length c.args.b.now = omega (arith, l, e) in
    not_so _ (others tree c.args.a.now c.args.b.now c.loop-at.at _ _ l m c.index-a-at.is c.index-b-at.is (apart _ c.same.result c.same.ensures c.if-not-same.true))
