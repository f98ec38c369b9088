use Rattle.std.proofs.Common.{◌≡◌, ℕ, ◌<◌, length}
use Rattle.hb_sets.specs.Set.{is_subset}
use Rattle.hb_order.specs.Heirs.{mix}
use Rattle.hb_joins.specs.Table.{entry_at, new_entry}
use Rattle.hb_joins.proofs.table.new_row.Given as goal

abbrev pub invariant-loop-a : goal.invariant-loop-a
invariant-loop-a l =
    (length l.entries.items ≡ l.a)
    × ((k : ℕ) → k < l.a → entry_at l.entries.items k ≡ new_entry (length l.sets.items) (is_subset (mix l.sets.items k) l.set))
