use Rattle.std.proofs.Common.{arith}
use Rattle.hb_pack.proofs.ArgumentLemmas.{nones_turn, nones_end}
use Rattle.hb_pack.proofs.arguments.nones.Goals as goal

pub loop-asked-preserved : goal.loop-asked-preserved
loop-asked-preserved c = rw c.in_ok-push.ensures.items (nones_turn c.args.asked.now c.loop-asked.none.items c.loop-asked._asked-index c.loop-asked-test.true c.loop-asked.invariant)

pub returns : goal.returns
returns c = nones_end c.args.asked.now _ c.loop-asked._asked-index (omega (arith, c.loop-asked-test.false, c.loop-asked.auto._asked-index-end)) c.loop-asked.invariant
