use Rattle.std.proofs.Common.{arith}
use Rattle.hb_generated.specs.Reading.{shape_of, coercion_in}
use Rattle.hb_pack.proofs.ArgumentLemmas.{brought_end}
use Rattle.hb_pack.proofs.arguments.all_brought.Goals as goal

pub returns : goal.returns
returns c h =
    brought_end (shape_of c.args.tables.now h) (coercion_in c.args.tables.now) c.args.from.now c.args.to.now c.args.args.now _ c.loop-at.at
    (omega (arith, c.loop-at-test.false, c.loop-at.auto.at-end, c.min.ensures, c.min-at-end.ensures)) (c.loop-at.invariant h)
