use Rattle.hb_order.specs.Allowed.{NoneMissingWith}
use Rattle.hb_joins.proofs.joins.Joins.first_missing_from.Given as goal

abbrev pub invariant-loop-at : goal.invariant-loop-at
invariant-loop-at l = NoneMissingWith l.self l.set l.a.0 l.at
