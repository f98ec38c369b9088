use Rattle.std.proofs.Common.{◌≡◌, rules}
use Rattle.hb_term.specs.Meaning.{tree}
use Rattle.hb_cert.specs.Ends.{IsAtMost}
use Rattle.hb_cert.proofs.EndLemmas.{ends_first, ends_next, is_zero}
use Rattle.hb_cert.proofs.ends.is_end.Goals as goal

pub returns-in-None : goal.returns-in-None
returns-in-None c =
    λ t.
    let e : tree c.in-Some-line.line.now.term ≡ tree c.args.ty.now = search rules in
    let b : IsAtMost c.in-Some.sort c.args.most = search rules in
    rw c.in-None.is
    (ends_first c.args.table.now c.args.at (tree c.args.ty.now) c.args.most c.in-Some.sort c.in-Some-line.line.now c.in-Some.ensures c.in-Some-line.ensures e b
    (is_zero c.in-Some-line.line.now.context t))

pub returns-in-Some-before : goal.returns-in-Some-before
returns-in-Some-before c =
    λ t.
    let e : tree c.in-Some-line.line.now.term ≡ tree c.args.ty.now = search rules in
    let b : IsAtMost c.in-Some.sort c.args.most = search rules in
    rw c.in-Some-before.is
    (ends_next c.args.table.now c.in-Some-before.before c.args.at (tree c.args.ty.now) c.args.most c.in-Some.sort c.in-Some-line.line.now c.in-Some.ensures
    c.in-Some-line.ensures e b (c.is_under.ensures t))
