use Rattle.std.proofs.Common.{length}
use Rattle.hb_kernel.proofs.telescope.+telescope_level.Given as goal

abbrev pub decreases-telescope_level : goal.decreases-telescope_level
decreases-telescope_level l = length l.params.now
