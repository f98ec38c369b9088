use Rattle.hb_order.proofs.NeedLemmas.{heirs_less}
use Rattle.hb_order.proofs.laws.heirs_need_less.Goals as goal

pub returns : goal.returns
returns c = heirs_less
