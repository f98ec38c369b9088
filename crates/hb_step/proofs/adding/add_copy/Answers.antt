use Rattle.std.proofs.Common.{inr}
use Rattle.hb_step.proofs.adding.add_copy.Goals as goal

pub returns-in-Err-clause-fails : goal.returns-in-Err-clause-fails
returns-in-Err-clause-fails c =
    rw
    c.refused-in-Err.ensures
    (inr (record { refused = c.in-Err.fault; cause = rw c.in-Ok.ensures at c.in-Err.ensures.refusal; what = c.of_kernel.ensures }))
