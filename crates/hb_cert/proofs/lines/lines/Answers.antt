use Rattle.hb_cert.proofs.EndLemmas.{empty_table}
use Rattle.hb_cert.proofs.lines.lines.Goals as goal

pub loop-at-init : goal.loop-at-init
loop-at-init c = empty_table c.args.env.now c.new-table.result c.new-table.ensures.contexts c.new-table.ensures.lines

pub loop-at-preserved : goal.loop-at-preserved
loop-at-preserved c = c.in_ok-line.ensures c.loop-at.invariant

pub returns : goal.returns
returns c = c.loop-at.invariant
