use Rattle.std.proofs.Common.{◌≡◌, None}
use Rattle.hb_joins.specs.Changes.{IsChanged}
use Rattle.hb_joins.specs.Table.{entry_at, filled}
use Rattle.hb_joins.proofs.table.Row.fill.Given as goal

abbrev pub invariant-loop-a : goal.invariant-loop-a
invariant-loop-a l =
    IsChanged (λ a was is. is ≡ filled was (entry_at l.new a) l.right) None l.initial.self-inside.entries.items l.self-inside.entries.items l.a
