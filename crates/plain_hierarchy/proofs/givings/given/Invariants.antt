use Rattle.std.proofs.Common.{◌≡◌, take}
use Rattle.hb_order.specs.Givings.{given}
use Rattle.hb_givings.specs.Givings.{givings_at}
use Rattle.plain_hierarchy.proofs.givings.given.Given as goal

abbrev pub invariant-loop-at : goal.invariant-loop-at
invariant-loop-at l = l.all ≡ given (givings_at (take l.at l.givings) l.carrier)
