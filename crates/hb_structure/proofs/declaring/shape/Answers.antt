use Rattle.hb_structure.specs.Refusing.{shape_unfit, shape_wants}
use Rattle.hb_structure.proofs.declaring.shape.Goals as goal

pub returns-in-Some-clause-refused : goal.returns-in-Some-clause-refused
returns-in-Some-clause-refused c =
    shape_unfit _ c.in-Ok.ensures.declarations (record { name = c.in-Some.taken; unfit = rw c.deref.ensures.value at c.in-Some.ensures.taken; refusal = c.refused.ensures })

pub returns-in-Err-clause-refused : goal.returns-in-Err-clause-refused
returns-in-Err-clause-refused c = shape_wants c.of_pack.ensures
