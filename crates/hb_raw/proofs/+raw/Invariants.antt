use Rattle.std.proofs.Common.{◌≤◌}
use Rattle.hb_raw.proofs.raw.RawKind.TheLaws.{the_size}
use Rattle.hb_raw.proofs.+raw.Given as goal

abbrev pub invariant-raw::RawKind::drop-loop-self : goal.invariant-raw::RawKind::drop-loop-self
invariant-raw::RawKind::drop-loop-self l = the_size l.self ≤ the_size l.initial.self
