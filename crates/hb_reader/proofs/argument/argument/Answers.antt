use Rattle.std.proofs.Common.{◌∙◌}
use Rattle.hb_reader.specs.Signs.{sign}
use Rattle.hb_reader.specs.Stacks.{stack}
use Rattle.hb_reader.specs.Views.{before}
use Rattle.hb_reader.proofs.MarkLemmas.{unbracketed-is}
use Rattle.hb_reader.proofs.argument.argument.Goals as goal

pub returns-in_default : goal.returns-in_default
returns-in_default c =
    c.atom.ensures ∙ unbracketed-is (before c.args.b) (stack c.args.around) c.args.mark (sign c.args.token) c.in_default.not-Open
