use Rattle.hb_reader.specs.Signs.{sign}
use Rattle.hb_reader.proofs.kind.Kind.after.Goals as goal

pub returns-in-Finish : goal.returns-in-Finish
returns-in-Finish c = rw c.in-Finish.is (c.after_finish.ensures (sign c.args.token))
