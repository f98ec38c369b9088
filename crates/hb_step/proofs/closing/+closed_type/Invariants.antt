use Rattle.std.proofs.Common.{length}
use Rattle.hb_step.proofs.closing.+closed_type.Given as goal

abbrev pub decreases-closed_type : goal.decreases-closed_type
decreases-closed_type l = length l.context.now
