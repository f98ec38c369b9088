use Rattle.hb_order.proofs.AllowedLemmas.{joins_unique}
use Rattle.hb_order.proofs.laws.joins_are_unique.Goals as goal

pub returns : goal.returns
returns c = joins_unique
