use Rattle.hb_reader.specs.Signs.{sign}
use Rattle.hb_reader.specs.Stacks.{stack}
use Rattle.hb_reader.specs.Views.{part, before}
use Rattle.hb_reader.proofs.MarkLemmas.{behind-else, at-applied}
use Rattle.hb_reader.proofs.following.after_argument.Goals as goal

pub returns-in_default : goal.returns-in_default
returns-in_default c =
    rw (behind-else (before c.args.b) (part c.args.a) c.args.is_universe (stack c.args.around) c.args.mark (sign c.args.token)
    c.in_default.not-Project c.in_default.not-Arrow c.in_default.not-At)
    c.applied_or_closed.ensures

pub returns-else-is_universe : goal.returns-else-is_universe
returns-else-is_universe c =
    rw (c.in-At.is, c.if-is_universe.false, at-applied (before c.args.b) (part c.args.a) (stack c.args.around) (sign c.args.token))
    c.applied.ensures
