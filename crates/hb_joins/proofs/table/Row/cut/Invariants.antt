use Rattle.std.proofs.Common.{◌≡◌, None}
use Rattle.hb_joins.specs.Changes.{IsChanged}
use Rattle.hb_joins.specs.Table.{kept}
use Rattle.hb_joins.proofs.table.Row.cut.Given as goal

abbrev pub invariant-loop-a : goal.invariant-loop-a
invariant-loop-a l = IsChanged (λ a was is. is ≡ kept l.n was) None l.initial.self-inside.entries.items l.self-inside.entries.items l.a
