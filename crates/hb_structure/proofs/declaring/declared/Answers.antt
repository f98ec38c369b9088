use Rattle.hb_structure.specs.Refusing.{not_made, made_not_added}
use Rattle.hb_structure.proofs.declaring.declared.Goals as goal

pub returns-in-Err-accept-clause-refused : goal.returns-in-Err-accept-clause-refused
returns-in-Err-accept-clause-refused c =
    made_not_added _ _ c.in-Ok.ensures.since.names c.in-Ok.ensures.made (rw c.in-Ok.ensures.hier at c.in-Err-accept.ensures.refused)

pub returns-in-Err-clause-refused : goal.returns-in-Err-clause-refused
returns-in-Err-clause-refused c = not_made c.in-Err.ensures.refused
