use Rattle.std.proofs.Common.{refl}
use Rattle.hb_reader.proofs.begin.words_begin.Goals as goal

pub returns-in-Structure : goal.returns-in-Structure
returns-in-Structure c = rw c.in-Structure.is refl
