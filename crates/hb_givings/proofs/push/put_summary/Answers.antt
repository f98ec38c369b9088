use Rattle.hb_givings.proofs.push.put_summary.Goals as goal

pub returns-in-Ok-clause-put : goal.returns-in-Ok-clause-put
returns-in-Ok-clause-put c = λ k. c.in-Ok.ensures.updates.0 k
