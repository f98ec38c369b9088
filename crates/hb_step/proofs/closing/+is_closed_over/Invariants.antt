use Rattle.std.proofs.Common.{length}
use Rattle.hb_step.proofs.closing.+is_closed_over.Given as goal

abbrev pub decreases-is_closed_over : goal.decreases-is_closed_over
decreases-is_closed_over l = length l.context.now
