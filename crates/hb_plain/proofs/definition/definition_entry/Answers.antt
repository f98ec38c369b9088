use Rattle.std.proofs.Common.{refl}
use Rattle.std.proofs.lemmas.Result.{err_from_is_err_and}
use Rattle.hb_plain.specs.Refusing.{not_free, not_elaborated, out_of_memory}
use Rattle.hb_plain.proofs.definition.definition_entry.Goals as goal

pub returns-in_err-is_free-clause-refused : goal.returns-in_err-is_free-clause-refused
returns-in_err-is_free-clause-refused c =
    let p = err_from_is_err_and c.from_residual.result c.from_residual.ensures.1 in
    rw (p.1, p.2) (not_free c.in_err-is_free.ensures.refused)

pub returns-in_err-made-clause-refused : goal.returns-in_err-made-clause-refused
returns-in_err-made-clause-refused c =
    let p = err_from_is_err_and c.from_residual-in_err-made.result c.from_residual-in_err-made.ensures.1 in
    rw (p.1, p.2) (not_elaborated c.in_ok-is_free.ensures.free c.in_err-made.ensures.refused)

pub returns-in-Err-clause-refused : goal.returns-in-Err-clause-refused
returns-in-Err-clause-refused c = rw c.refused.ensures (out_of_memory refl)
