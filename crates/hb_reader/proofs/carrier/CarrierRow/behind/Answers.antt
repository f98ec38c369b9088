use Rattle.std.proofs.Common.{refl}
use Rattle.hb_reader.proofs.carrier.CarrierRow.behind.Goals as goal

pub returns-in-RecordName : goal.returns-in-RecordName
returns-in-RecordName c = rw (c.in-RecordName.is, c.word-name.ensures) refl

pub returns-in-BuildersContext : goal.returns-in-BuildersContext
returns-in-BuildersContext c = rw c.in-BuildersContext.is refl
