use Rattle.std.proofs.Common.{length}
use Rattle.hb_kernel.proofs.judge.+check_under.Given as goal

abbrev pub decreases-check_under : goal.decreases-check_under
decreases-check_under l = length l.rest.now
