use Rattle.std.proofs.Common.{sym}
use Rattle.hb_reader.specs.Views.{before}
use Rattle.hb_reader.proofs.measure.making.Goals as goal

pub returns : goal.returns
returns c = λ w. c.argument_or_close.ensures (before c.args.b.now) w (sym c.count.ensures)
