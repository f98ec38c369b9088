use Rattle.std.proofs.Common.{◌≡◌, []}
use Rattle.std.specs.Vec.{vec_len, vec_capacity}
use Rattle.hb_joins.specs.Changes.{IsChanged}
use Rattle.hb_joins.specs.Table.{IsFilled}
use Rattle.hb_joins.proofs.table.fill_rows.Given as goal

abbrev pub invariant-loop-b : goal.invariant-loop-b
invariant-loop-b l =
    IsChanged (IsFilled l.new) [] l.initial.rows.items l.rows.items l.b
    × (vec_len l.rows ≡ vec_len l.initial.rows)
    × (vec_capacity l.rows ≡ vec_capacity l.initial.rows)
