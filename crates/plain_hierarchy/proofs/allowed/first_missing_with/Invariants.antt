use Rattle.hb_order.specs.Allowed.{NoneMissingWith}
use Rattle.plain_hierarchy.proofs.allowed.first_missing_with.Given as goal

abbrev pub invariant-loop-at : goal.invariant-loop-at
invariant-loop-at l = NoneMissingWith l.structures l.set l.a.0 l.at
