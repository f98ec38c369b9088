use Rattle.hb_refactor.specs.Sides.{both}
use Rattle.hb_refactor.proofs.KeptLemmas.{structures_more}
use Rattle.hb_refactor.proofs.sides.Sides.compare_structures.Goals as goal

pub loop-at-preserved : goal.loop-at-preserved
loop-at-preserved c = structures_more (both c.args.self.now) c.loop-at.at c.loop-at.invariant c.in-Ok.ensures.kept
