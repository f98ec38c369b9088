use Rattle.hb_reader.proofs.row.Row.nesting.Goals as goal

pub returns-in-Fork : goal.returns-in-Fork
returns-in-Fork c = rw c.in-Fork.is c.nesting-in-Fork.ensures
