use Rattle.std.proofs.Common.{sym}
use Rattle.hb_reader.specs.Stacks.{stack}
use Rattle.hb_reader.proofs.MeasureLemmas.{argument_leaf_else}
use Rattle.hb_reader.proofs.measure.argument.Goals as goal

pub returns-in_default : goal.returns-in_default
returns-in_default c = λ b w e.
    rw (argument_leaf_else b (stack c.args.around.now) c.args.mark w c.in_default.not-Open) (c.depth-nested.ensures, sym e)
