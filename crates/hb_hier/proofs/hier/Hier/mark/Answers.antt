use Rattle.std.proofs.Common.{arith}
use Rattle.hb_hier.proofs.EndingLemmas.{endings-few}
use Rattle.hb_hier.proofs.hier.Hier.mark.Goals as goal

pub overflow_cast-result-3 : goal.overflow_cast-result-3
overflow_cast-result-3 c = omega (arith, endings-few c.self.inside.endings.items c.self.invariant.ended_once, c.ending_count.ensures)
