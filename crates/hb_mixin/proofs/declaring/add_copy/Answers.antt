use Rattle.hb_mixin.proofs.declaring.add_copy.Goals as goal

pub returns-in-Err-clause-refused : goal.returns-in-Err-clause-refused
returns-in-Err-clause-refused c = rw c.in-Ok.ensures at c.in-Err.ensures.refusal
