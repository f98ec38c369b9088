use Rattle.std.proofs.Common.{length}
use Rattle.hb_step.proofs.closing.+closed_body.Given as goal

abbrev pub decreases-closed_body : goal.decreases-closed_body
decreases-closed_body l = length l.context.now
