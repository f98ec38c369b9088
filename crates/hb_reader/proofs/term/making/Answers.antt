use Rattle.hb_reader.specs.Signs.{sign}
use Rattle.hb_reader.specs.Stacks.{stack}
use Rattle.hb_reader.specs.Views.{spine}
use Rattle.hb_reader.proofs.MarkLemmas.{making-else}
use Rattle.hb_reader.proofs.term.making.Goals as goal

pub returns-in_default : goal.returns-in_default
returns-in_default c =
    rw (making-else (spine c.args.built) (stack c.args.around) c.args.mark (sign c.args.token) c.in_default.not-End)
    c.argument.ensures
