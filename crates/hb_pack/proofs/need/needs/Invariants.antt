use Rattle.std.proofs.Common.{◌≡◌, map}
use Rattle.hb_givings.specs.Givings.{givings_at}
use Rattle.hb_hier.specs.Hierarchy.{sets}
use Rattle.hb_generated.specs.Reading.{numbers, need_of, below_from}
use Rattle.hb_pack.proofs.need.needs.Given as goal

abbrev pub invariant-loop-at : goal.invariant-loop-at
invariant-loop-at l = numbers l.needs.items ≡ map (need_of (sets l.hier) (givings_at l.hier.givings l.carrier) l.set) (below_from 0 l.at)
