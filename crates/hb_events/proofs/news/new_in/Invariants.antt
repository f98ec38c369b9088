use Rattle.std.proofs.Common.{◌≡◌}
use Rattle.hb_order.specs.Heirs.{mix}
use Rattle.hb_hier.specs.Hierarchy.{sets}
use Rattle.hb_events.specs.Listing.{structures_below, is_new_in}
use Rattle.hb_events.proofs.news.new_in.Given as goal

abbrev pub invariant-loop-s : goal.invariant-loop-s
invariant-loop-s l = l.list.items ≡ structures_below l.hier (λ s. is_new_in l.before l.now (mix (sets l.hier) s)) l.s
