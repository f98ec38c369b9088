use Rattle.std.proofs.Common.{length}
use Rattle.hb_kernel.proofs.known.+types_known.Given as goal

abbrev pub decreases-types_known : goal.decreases-types_known
decreases-types_known l = length l.params.now
