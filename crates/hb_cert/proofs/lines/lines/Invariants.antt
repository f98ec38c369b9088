use Rattle.hb_strict.specs.Tables.{IsTable}
use Rattle.hb_cert.proofs.lines.lines.Given as goal

abbrev pub invariant-loop-at : goal.invariant-loop-at
invariant-loop-at l = IsTable l.env l.table
