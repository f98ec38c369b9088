use Rattle.std.proofs.Common.{◌≡◌, rules}
use Rattle.hb_term.specs.Meaning.{tree}
use Rattle.hb_cert.proofs.EndLemmas.{body_line}
use Rattle.hb_cert.proofs.ends.is_body.Goals as goal

pub returns : goal.returns
returns c =
    λ t.
    let z : c.in-Some.line.now.context ≡ 0 = search rules in
    let e : tree c.in-Some.line.now.term ≡ tree c.args.body.now = search rules in
    body_line c.args.table.now c.args.at (tree c.args.body.now) (tree c.args.ty.now) c.in-Some.line.now c.in-Some.ensures z e (c.same-2.ensures.0 t)
