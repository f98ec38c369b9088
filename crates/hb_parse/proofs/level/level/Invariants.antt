use Rattle.std.proofs.Common.{◌≡◌, min, take}
use Rattle.hb_parse.specs.Marks.{number_of}
use Rattle.hb_parse.proofs.level.level.Given as goal

abbrev pub invariant-loop-digit : goal.invariant-loop-digit
invariant-loop-digit l = l.level ≡ min 64 (number_of (take l.digit-index l.digits))
