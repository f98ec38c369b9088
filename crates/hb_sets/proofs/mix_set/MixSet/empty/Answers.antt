use Rattle.hb_sets.proofs.WordLemmas.{members-zeros}
use Rattle.hb_sets.proofs.mix_set.MixSet.empty.Goals as goal

pub returns : goal.returns
returns c = members-zeros
