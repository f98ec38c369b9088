use Rattle.std.proofs.lemmas.Result.{err_from_is_err_and}
use Rattle.hb_mixin.proofs.command.admit.Goals as goal

pub returns-in_err-check_names-clause-refused : goal.returns-in_err-check_names-clause-refused
returns-in_err-check_names-clause-refused c =
    let p = err_from_is_err_and c.from_residual-in_err-check_names.result c.from_residual-in_err-check_names.ensures.1 in
    rw (p.1, p.2) (λ N L. c.in_err-check_names.ensures.refused N L c.args.span c.in_ok-outside_section.ensures.outside)
