use Rattle.std.proofs.Common.{◌≡◌}
use Rattle.hb_events.specs.Listing.{structures_below, is_above}
use Rattle.hb_events.proofs.about.heirs.Given as goal

abbrev pub invariant-loop-t : goal.invariant-loop-t
invariant-loop-t l = l.list.items ≡ structures_below l.hier (λ t. is_above l.hier t l.s.0) l.t
