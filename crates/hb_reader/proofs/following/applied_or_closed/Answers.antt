use Rattle.std.proofs.Common.{◌≡◌, true, false}
use Rattle.hb_reader.specs.Arguments.{begins_argument}
use Rattle.hb_reader.specs.Signs.{sign}
use Rattle.hb_reader.specs.Stacks.{stack}
use Rattle.hb_reader.specs.Views.{part, before}
use Rattle.hb_reader.proofs.MarkLemmas.{applied-is, ending-is}
use Rattle.hb_reader.proofs.following.applied_or_closed.Goals as goal

pub returns-then-begins_argument : goal.returns-then-begins_argument
returns-then-begins_argument c =
    let e : begins_argument c.args.mark ≡ true = rw (← c.begins_argument.ensures) c.if-begins_argument.true in
    rw (applied-is (before c.args.b) (part c.args.a) (stack c.args.around) c.args.mark (sign c.args.token) e)
    c.applied.ensures

pub returns-else-begins_argument : goal.returns-else-begins_argument
returns-else-begins_argument c =
    let e : begins_argument c.args.mark ≡ false = rw (← c.begins_argument.ensures) c.if-begins_argument.false in
    rw (ending-is (before c.args.b) (part c.args.a) (stack c.args.around) c.args.mark (sign c.args.token) e)
    c.ended.ensures
