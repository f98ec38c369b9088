use Rattle.hb_structure.specs.Refusing.{load_not_made, load_not_taken}
use Rattle.hb_structure.proofs.replaying.taken.Goals as goal

pub returns-in-Err-compared-clause-refused : goal.returns-in-Err-compared-clause-refused
returns-in-Err-compared-clause-refused c =
    load_not_taken _ _ c.in-Ok.ensures.since.names c.in-Ok.ensures.made (rw c.in-Ok.ensures.hier at c.in-Err-compared.ensures.refused)

pub returns-in-Err-clause-refused : goal.returns-in-Err-clause-refused
returns-in-Err-clause-refused c = load_not_made c.in-Err.ensures.refused
