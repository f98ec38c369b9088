use Rattle.std.proofs.Common.{◌≡◌, ◌<◌, length, get_or, arith, rules}
use Rattle.hb_cert.proofs.EndLemmas.{fields_scoped}
use Rattle.hb_cert.proofs.verifying.fields_fit.Goals as goal

pub loop-field-preserved : goal.loop-field-preserved
loop-field-preserved c =
    let lt : c.loop-field.field-index < length c.args.fields.now = search rules in
    let e : c.field-item.result ≡ get_or c.args.fields.now c.loop-field.field-index c.field-item.result = search (rules, c.field-item.is) in (
      omega (arith, c.in-Some.ensures.1, c.loop-field.invariant.0),
      fields_scoped c.args.fields.now c.args.outside c.loop-field.field-index c.loop-field.before c.field-item.result lt e c.loop-field.invariant.0
          c.loop-field.invariant.1 (c.fits.ensures c.if-not-fits.false),
    )
