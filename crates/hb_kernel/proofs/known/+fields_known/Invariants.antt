use Rattle.std.proofs.Common.{length}
use Rattle.hb_kernel.proofs.known.+fields_known.Given as goal

abbrev pub decreases-fields_known : goal.decreases-fields_known
decreases-fields_known l = length l.fields.now
