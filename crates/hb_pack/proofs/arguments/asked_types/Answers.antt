use Rattle.std.proofs.Common.{arith}
use Rattle.hb_paths.specs.Carriers.{asked_type}
use Rattle.hb_generated.specs.Reading.{shape_of}
use Rattle.hb_pack.proofs.ArgumentLemmas.{types_turn, types_end}
use Rattle.hb_pack.proofs.arguments.asked_types.Goals as goal

pub loop-s-preserved : goal.loop-s-preserved
loop-s-preserved c h =
    rw c.in_ok-push.ensures.items
    (types_turn (asked_type (shape_of c.args.tables.now h)) c.args.asked.now c.loop-s.types.items c.loop-s.s-index c.asked_type.result c.loop-s-test.true (c.asked_type.ensures h) (c.loop-s.invariant h))

pub returns : goal.returns
returns c h =
    types_end (asked_type (shape_of c.args.tables.now h)) c.args.asked.now _ c.loop-s.s-index (omega (arith, c.loop-s-test.false, c.loop-s.auto.s-index-end)) (c.loop-s.invariant h)
