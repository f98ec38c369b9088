use Rattle.std.proofs.Common.{◌≡◌}
use Rattle.hb_tables.specs.Maps.{entry_of}
use Rattle.hb_events.specs.Listing.{structures_below, is_late, struct_id}
use Rattle.hb_events.proofs.news.new_at_constant.Given as goal

abbrev pub invariant-loop-s : goal.invariant-loop-s
invariant-loop-s l = l.list.items ≡ structures_below l.hier (λ s. is_late (entry_of l.tables (struct_id s) l.carrier) l.before) l.s
