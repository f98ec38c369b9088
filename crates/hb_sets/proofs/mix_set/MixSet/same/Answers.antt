use Rattle.hb_sets.proofs.SetLemmas.{same_both, same_refused}
use Rattle.hb_sets.proofs.mix_set.MixSet.same.Goals as goal

pub returns-then-subset : goal.returns-then-subset
returns-then-subset c = same_both _ _ _ c.if-subset.ensures c.subset-then-subset.ensures

pub returns-else-subset : goal.returns-else-subset
returns-else-subset c = same_refused _ _ _ c.if-subset.false c.subset.ensures
