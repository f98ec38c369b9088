use Rattle.hb_kernel.proofs.CompareLemmas.{spent-not-below}
use Rattle.hb_kernel.proofs.compare.ask_below.Goals as goal

pub returns-in-Spent-clause-fault : goal.returns-in-Spent-clause-fault
returns-in-Spent-clause-fault c =
    spent-not-below _ _ c.args.a.now c.args.b.now c.in-Spent.kept c.requires (rw c.in-Spent.is at c.in-Err.ensures.answer)
