use Rattle.std.proofs.Common.{length}
use Rattle.hb_kernel.proofs.size.+types_large.Given as goal

abbrev pub decreases-types_large : goal.decreases-types_large
decreases-types_large l = length l.params.now
