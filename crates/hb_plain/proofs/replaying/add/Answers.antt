use Rattle.std.proofs.Common.{refl}
use Rattle.hb_plain.specs.Loading.{too_many, stops}
use Rattle.hb_plain.proofs.replaying.add.Goals as goal

pub returns-in-Some-clause-refused : goal.returns-in-Some-clause-refused
returns-in-Some-clause-refused c =
    rw c.refused.ensures (too_many (rw (c.env.ensures.same, c.deref.ensures.value) at c.in-Some.ensures.passed) refl)

pub returns-in-Err-clause-refused : goal.returns-in-Err-clause-refused
returns-in-Err-clause-refused c = stops (rw c.deref-2.ensures.value at c.in-Err.ensures.stops)
