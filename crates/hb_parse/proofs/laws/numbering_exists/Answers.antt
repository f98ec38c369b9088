use Rattle.hb_parse.proofs.Numbering.{numbering_exists}
use Rattle.hb_parse.proofs.laws.numbering_exists.Goals as goal

pub returns : goal.returns
returns c = numbering_exists
