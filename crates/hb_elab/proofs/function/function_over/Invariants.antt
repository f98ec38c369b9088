use Rattle.std.proofs.Common.{length}
use Rattle.hb_elab.proofs.function.function_over.Given as goal

abbrev pub decreases-loop-step : goal.decreases-loop-step
decreases-loop-step l = length l.steps.items
