use Rattle.std.proofs.Common.{◌≡◌}
use Rattle.hb_events.specs.Listing.{mixins_below}
use Rattle.hb_events.proofs.listing.mixin_names.Given as goal

abbrev pub invariant-loop-m : goal.invariant-loop-m
invariant-loop-m l = l.list.items ≡ mixins_below l.hier l.set l.m
