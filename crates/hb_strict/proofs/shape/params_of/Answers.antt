use Rattle.std.proofs.Common.{◌<◌, arith}
use Rattle.hb_term.specs.Meaning.{tree}
use Rattle.hb_strict.proofs.TableLemmas.{ok_more, record_type}
use Rattle.hb_strict.proofs.shape.params_of.Goals as goal

pub returns : goal.returns
returns c =
    let l : c.args.field < c.in-Some.fields = omega (arith, c.if-from-fields.false) in
    ok_more c.arguments.result
    (λ o k. record_type c.args.env.now c.args.rec.0 c.args.field (tree c.args.ty.now) (c.in-Some.params, c.in-Some.fields) o c.in-Some.ensures.sizes l k)
    c.arguments.ensures
