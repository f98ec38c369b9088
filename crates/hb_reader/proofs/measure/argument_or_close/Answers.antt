use Rattle.std.proofs.Common.{◌≡◌, true, false, refl}
use Rattle.hb_reader.specs.Arguments.{begins_argument}
use Rattle.hb_reader.specs.Stacks.{stack}
use Rattle.hb_reader.proofs.MeasureLemmas.{argument_leaf_is, closing_leaf_is}
use Rattle.hb_reader.proofs.measure.argument_or_close.Goals as goal

pub returns-then-begins_argument : goal.returns-then-begins_argument
returns-then-begins_argument c = λ b w e.
    let i : begins_argument c.args.mark ≡ true = rw (← c.begins_argument.ensures) c.if-begins_argument.true in
    rw (argument_leaf_is b (stack c.args.around.now) c.args.mark w i) (c.argument.ensures b w e)

pub returns-else-begins_argument : goal.returns-else-begins_argument
returns-else-begins_argument c = λ b w e.
    let i : begins_argument c.args.mark ≡ false = rw (← c.begins_argument.ensures) c.if-begins_argument.false in
    rw (closing_leaf_is b (stack c.args.around.now) c.args.mark w i) (c.closing.ensures, refl)
