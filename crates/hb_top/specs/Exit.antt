-- The numbers of the statuses, which the program ends with.
use Rattle.std.specs.Prelude.{ℕ}
use Rattle.hb_top.specs.declared.status.Status.{Status}
use Rattle.hb_top.specs.declared.status.Status.TheVariants.{Done, Refused, Usage, SourceFault, SinkFault, Spent, NoMemory, EmitLost}

abbrev pub status_number : Status → ℕ
status_number Done = 0
status_number Refused = 1
status_number Usage = 2
status_number SourceFault = 3
status_number SinkFault = 4
status_number Spent = 5
status_number NoMemory = 6
status_number EmitLost = 7
