use Rattle.hb_strict.specs.Tables.{IsTable, IsChain}
use Rattle.hb_cert.proofs.lines.conversion.Given as goal

abbrev pub invariant-loop-member : goal.invariant-loop-member
invariant-loop-member l = IsTable l.env l.table → IsChain l.env l.table l.line l.last
