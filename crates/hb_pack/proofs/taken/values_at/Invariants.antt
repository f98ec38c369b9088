use Rattle.std.proofs.Common.{◌≡◌, map, take}
use Rattle.hb_env.specs.Plain.{trees}
use Rattle.hb_generated.specs.Reading.{numbers, value_at}
use Rattle.hb_pack.proofs.taken.values_at.Given as goal

abbrev pub invariant-loop-m : goal.invariant-loop-m
invariant-loop-m l = trees l.values.items ≡ map (λ m. value_at l.tables l.hier l.carrier (numbers l.asked) (trees l.args) m) (take l.m-index l.mixins)
