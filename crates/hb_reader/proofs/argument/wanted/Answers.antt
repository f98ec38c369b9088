use Rattle.hb_reader.specs.Signs.{sign}
use Rattle.hb_reader.specs.Stacks.{stack}
use Rattle.hb_reader.specs.Views.{before}
use Rattle.hb_reader.proofs.MarkLemmas.{begins-else}
use Rattle.hb_reader.proofs.argument.wanted.Goals as goal

pub returns-in_default : goal.returns-in_default
returns-in_default c =
    rw (begins-else (before c.args.b) (stack c.args.around) c.args.mark (sign c.args.token) c.in_default.not-Forall c.in_default.not-Fun)
    c.argument.ensures
