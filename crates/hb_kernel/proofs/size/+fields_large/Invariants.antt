use Rattle.std.proofs.Common.{length}
use Rattle.hb_kernel.proofs.size.+fields_large.Given as goal

abbrev pub decreases-fields_large : goal.decreases-fields_large
decreases-fields_large l = length l.fields.now
