use Rattle.std.proofs.Common.{length}
use Rattle.hb_kernel.proofs.telescope.+fields_level.Given as goal

abbrev pub decreases-fields_level : goal.decreases-fields_level
decreases-fields_level l = length l.fields.now
