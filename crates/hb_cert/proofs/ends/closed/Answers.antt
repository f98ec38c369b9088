use Rattle.hb_term.specs.Meaning.{tree}
use Rattle.hb_cert.proofs.EndLemmas.{closed_end}
use Rattle.hb_cert.proofs.ends.closed.Goals as goal

pub returns : goal.returns
returns c = closed_end c.args.table.now (tree c.args.ty.now) c.in_ok-_line._line c.in_ok-_line.ensures
