use Rattle.hb_reader.proofs.following.arrow_behind.Goals as goal

pub returns : goal.returns
returns c = rw (← c.in_ok-left.ensures) c.right.ensures
