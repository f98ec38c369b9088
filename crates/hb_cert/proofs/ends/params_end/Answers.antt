use Rattle.std.proofs.Common.{◌≡◌, ◌<◌, length, get_or, take, refl, rules}
use Rattle.hb_cert.proofs.EndLemmas.{params_more, taken_all}
use Rattle.hb_cert.proofs.ends.params_end.Goals as goal

pub loop-ty-init : goal.loop-ty-init
loop-ty-init c = λ E h. (tt, refl)

pub loop-ty-preserved : goal.loop-ty-preserved
loop-ty-preserved c =
    let lt : c.loop-ty.ty-index < length c.args.params.now = search rules in
    let e : c.ty-item.result ≡ get_or c.args.params.now c.loop-ty.ty-index c.ty-item.result = search (rules, c.ty-item.is) in
    params_more c.args.table.now c.args.params.now c.loop-ty.ty-index c.ty-item.result c.loop-ty.before c.in_ok-end.field-0 lt e c.loop-ty.invariant c.in_ok-end.ensures

pub returns : goal.returns
returns c =
    let e : take c.loop-ty.ty-index c.args.params.now ≡ c.args.params.now = taken_all c.args.params.now c.loop-ty.ty-index c.loop-ty-test.false in
    λ E h. rw e at (c.loop-ty.invariant E h)
