use Rattle.hb_pack.proofs.OperationLemmas.{all_turn}
use Rattle.hb_pack.proofs.operations.operations.Goals as goal

pub loop-m-preserved : goal.loop-m-preserved
loop-m-preserved c s =
    rw c.in_ok-append.ensures.items
    (all_turn c.args.env.now c.args.hier.now s c.args.layout.now c.args.mixins.now c.loop-m.made.items c.in_ok-new.new.items c.loop-m.m-index c.loop-m-test.true (c.in_ok-new.ensures s) (c.loop-m.invariant s))
