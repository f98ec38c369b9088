use Rattle.std.proofs.Common.{◌≡◌, map, take, None}
use Rattle.hb_generated.specs.Reading.{numbers}
use Rattle.hb_pack.proofs.arguments.nones.Given as goal

abbrev pub invariant-loop-asked : goal.invariant-loop-asked
invariant-loop-asked l = numbers l.none.items ≡ map (λ b. None) (take l._asked-index l.asked)
