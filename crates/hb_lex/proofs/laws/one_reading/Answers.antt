use Rattle.hb_lex.proofs.Way.{one_reading}
use Rattle.hb_lex.proofs.laws.one_reading.Goals as goal

pub returns : goal.returns
returns c = one_reading
