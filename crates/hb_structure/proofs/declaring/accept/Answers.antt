use Rattle.hb_structure.specs.Refusing.{made_unfit, too_many_made}
use Rattle.hb_structure.proofs.declaring.accept.Goals as goal

pub returns-in-Some-clause-refused : goal.returns-in-Some-clause-refused
returns-in-Some-clause-refused c =
    made_unfit (record { name = c.in-Some.taken; unfit = rw (c.deref.ensures.value, c.env.ensures.same) at c.in-Some.ensures.taken; refusal = c.refused.ensures })

pub returns-in-Some-passed_count-clause-refused : goal.returns-in-Some-passed_count-clause-refused
returns-in-Some-passed_count-clause-refused c =
    too_many_made c.in-Some-passed_count.count (rw (c.deref-2.ensures.value, c.env-2.ensures.same) at c.in-Some-passed_count.ensures.passed) c.refused-in-Some-passed_count.ensures
