use Rattle.std.proofs.Common.{ℕ, ◌<◌, length}
use Rattle.hb_order.specs.Allowed.{NoneMissingWith}
use Rattle.hb_joins.proofs.joins.Joins.first_missing.Given as goal

abbrev pub invariant-loop-at : goal.invariant-loop-at
invariant-loop-at l = (c : ℕ) → c < l.at → NoneMissingWith l.self l.set c (length l.self)
