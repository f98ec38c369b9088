use Rattle.std.proofs.Common.{length}
use Rattle.hb_kernel.proofs.judge.+infer_under.Given as goal

abbrev pub decreases-infer_under : goal.decreases-infer_under
decreases-infer_under l = length l.rest.now
