use Rattle.hb_order.proofs.NeedLemmas.{structures_keep}
use Rattle.hb_order.proofs.laws.later_structures_keep_needs.Goals as goal

pub returns : goal.returns
returns c = structures_keep
