use Rattle.hb_sets.proofs.SetLemmas.{subset_by_first}
use Rattle.hb_sets.proofs.mix_set.MixSet.subset.Goals as goal

pub returns : goal.returns
returns c =
    subset_by_first c.args.self.now c.args.other.now c.first_outside.result c.is_none.result c.is_none.ensures c.first_outside.ensures.none c.first_outside.ensures.first
