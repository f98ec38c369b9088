use Rattle.std.proofs.Common.{[]}
use Rattle.hb_joins.specs.Changes.{IsChanged}
use Rattle.hb_joins.specs.Table.{IsCut}
use Rattle.hb_joins.proofs.table.cut_rows.Given as goal

abbrev pub invariant-loop-b : goal.invariant-loop-b
invariant-loop-b l = IsChanged (λ b. IsCut l.n) [] l.initial.rows.items l.rows.items l.b
