use Rattle.std.proofs.Common.{◌≡◌, min, take}
use Rattle.hb_core.specs.Levels.{number_of}
use Rattle.hb_core.proofs.level.level.Given as goal

abbrev pub invariant-loop-digit : goal.invariant-loop-digit
invariant-loop-digit l = l.level ≡ min 64 (number_of (take l.digit-index l.digits))
