use Rattle.std.proofs.Common.{[], arith}
use Rattle.hb_joins.specs.Table.{IsFilled}
use Rattle.hb_joins.proofs.ChangeLemmas.{changed-read}
use Rattle.hb_joins.proofs.table.fill_rows.Goals as goal

pub loop-b-preserved : goal.loop-b-preserved
loop-b-preserved c = (
  changed-read (IsFilled c.args.new.now) [] c.args.rows.now.items c.loop-b.rows.items c.loop-b.b _ c.fill.new.self c.loop-b.invariant.0
      (omega (arith, c.loop-b.invariant.0.long)) c.index_mut.ensures.value c.fill.ensures,
  c.loop-b.invariant.1,
  c.loop-b.invariant.2,
)
