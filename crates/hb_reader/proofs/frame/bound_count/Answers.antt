use Rattle.std.proofs.Common.{arith}
use Rattle.hb_reader.proofs.MeasureLemmas.{bound_in_take}
use Rattle.hb_reader.proofs.frame.bound_count.Goals as goal

pub loop-g-preserved : goal.loop-g-preserved
loop-g-preserved c =
    omega (arith, bound_in_take c.deref-g-items.result.now c.loop-g.g-index c.g-item.result c.loop-g-test.true c.g-item.is)
