use Rattle.std.proofs.Common.{refl}
use Rattle.hb_reader.proofs.carrier.Carrying.carried.Goals as goal

pub returns-in-Builders : goal.returns-in-Builders
returns-in-Builders c = rw c.in-Builders.is refl
