use Rattle.hb_writer.proofs.PieceLemmas.{stack_more, weights_more}
use Rattle.hb_writer.proofs.stack.put.Goals as goal

pub returns-clause-text : goal.returns-clause-text
returns-clause-text c = λ N E B. rw c.in_ok-push.ensures.items (stack_more N E B c.args.stack.now.items c.args.piece)

pub returns-clause-weight : goal.returns-clause-weight
returns-clause-weight c = rw c.in_ok-push.ensures.items (weights_more c.args.stack.now.items c.args.piece)
