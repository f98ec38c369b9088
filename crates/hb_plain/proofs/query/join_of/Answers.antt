use Rattle.std.proofs.lemmas.Result.{err_from_is_err_and}
use Rattle.hb_plain.specs.Refusing.{no_left, no_right}
use Rattle.hb_plain.proofs.query.join_of.Goals as goal

pub returns-in_err-left-clause-refused : goal.returns-in_err-left-clause-refused
returns-in_err-left-clause-refused c =
    let p = err_from_is_err_and c.from_residual.result c.from_residual.ensures.1 in
    rw (p.1, p.2) (no_left c.in_err-left.ensures.refused)

pub returns-in_err-right-clause-refused : goal.returns-in_err-right-clause-refused
returns-in_err-right-clause-refused c =
    let p = err_from_is_err_and c.from_residual-in_err-right.result c.from_residual-in_err-right.ensures.1 in
    rw (p.1, p.2) (no_right (rw c.in_ok-left.ensures.found tt) c.in_err-right.ensures.refused)
