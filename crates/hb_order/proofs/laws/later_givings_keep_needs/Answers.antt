use Rattle.hb_order.proofs.NeedLemmas.{givings_keep}
use Rattle.hb_order.proofs.laws.later_givings_keep_needs.Goals as goal

pub returns : goal.returns
returns c = givings_keep
