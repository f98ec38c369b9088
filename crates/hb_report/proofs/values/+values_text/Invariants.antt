use Rattle.std.proofs.Common.{length}
use Rattle.hb_report.proofs.values.+values_text.Given as goal

abbrev pub decreases-values_text : goal.decreases-values_text
decreases-values_text l = length l.values.now
