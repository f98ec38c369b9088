use Rattle.std.proofs.lemmas.Result.{err_from_is_err_and}
use Rattle.hb_plain.specs.Refusing.{reserved, redeclared}
use Rattle.hb_plain.proofs.RefusalLemmas.{if_err}
use Rattle.hb_plain.proofs.axiom.is_free.Goals as goal

pub returns-in_err-not_reserved-clause-refused : goal.returns-in_err-not_reserved-clause-refused
returns-in_err-not_reserved-clause-refused c =
    let p = err_from_is_err_and c.from_residual.result c.from_residual.ensures.1 in
    rw (p.1, p.2) (reserved c.in_err-not_reserved.ensures.refused)

pub returns-clause-refused : goal.returns-clause-refused
returns-clause-refused c =
    if_err c.not_taken.result (λ r h. redeclared c.in_ok-not_reserved.ensures.free h) (rw c.env.ensures.same at c.not_taken.ensures.refused)
