use Rattle.std.proofs.Common.{◌≡◌, ◌<◌, length, get_or, arith, rules}
use Rattle.hb_cert.proofs.EndLemmas.{params_scoped}
use Rattle.hb_cert.proofs.verifying.params_fit.Goals as goal

pub loop-ty-preserved : goal.loop-ty-preserved
loop-ty-preserved c =
    let lt : c.loop-ty.ty-index < length c.args.params.now = search rules in
    let e : c.ty-item.result ≡ get_or c.args.params.now c.loop-ty.ty-index c.ty-item.result = search (rules, c.ty-item.is) in (
      omega (arith, c.in-Some.ensures.1, c.loop-ty.invariant.0),
      params_scoped c.args.params.now c.loop-ty.ty-index c.loop-ty.before c.ty-item.result lt e c.loop-ty.invariant.0 c.loop-ty.invariant.1
          (c.fits.ensures c.if-not-fits.false),
    )
