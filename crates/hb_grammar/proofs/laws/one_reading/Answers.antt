use Rattle.hb_grammar.proofs.Unique.{one_reading}
use Rattle.hb_grammar.proofs.laws.one_reading.Goals as goal

pub returns : goal.returns
returns c = one_reading
