use Rattle.hb_reader.specs.Signs.{sign}
use Rattle.hb_reader.specs.Stacks.{stack}
use Rattle.hb_reader.specs.Views.{part, before}
use Rattle.hb_reader.proofs.MarkLemmas.{universe-else}
use Rattle.hb_reader.proofs.term.after_universe_at.Goals as goal

pub returns-in_default : goal.returns-in_default
returns-in_default c =
    rw (universe-else (before c.args.b) (part c.args.a) c.args.at (stack c.args.around) c.args.mark (sign c.args.token) c.in_default.not-Brace)
    c.bare_behind.ensures
