use Rattle.std.proofs.lemmas.Result.{err_from_is_err_and}
use Rattle.hb_plain.specs.Refusing.{no_structure, no_key}
use Rattle.hb_plain.proofs.query.find.Goals as goal

pub returns-in_err-structure-clause-refused : goal.returns-in_err-structure-clause-refused
returns-in_err-structure-clause-refused c =
    let p = err_from_is_err_and c.from_residual.result c.from_residual.ensures.1 in
    rw (p.1, p.2) (no_structure c.in_err-structure.ensures.refused)

pub returns-in_default-clause-refused : goal.returns-in_default-clause-refused
returns-in_default-clause-refused c = rw c.refused.ensures (no_key (rw c.in_ok-structure.ensures.found tt) tt)

pub returns-in-Err-clause-refused : goal.returns-in-Err-clause-refused
returns-in-Err-clause-refused c = no_key (rw c.in_ok-structure.ensures.found tt) c.of_elaboration.ensures.kind

pub returns-clause-refused : goal.returns-clause-refused
returns-clause-refused c = no_key (rw c.in_ok-structure.ensures.found tt) c.of_elaboration-in-Err-found.ensures.kind
