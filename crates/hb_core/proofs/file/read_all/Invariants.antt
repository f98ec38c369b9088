use Rattle.std.proofs.Common.{IfSome}
use Rattle.hb_core.specs.Names.{Extends}
use Rattle.hb_core.specs.Places.{IsToken}
use Rattle.hb_core.proofs.file.read_all.Given as goal

abbrev pub invariant-loop-token : goal.invariant-loop-token
invariant-loop-token l = Extends l.initial.names l.names × IfSome l.unknown (IsToken l.tokens)
