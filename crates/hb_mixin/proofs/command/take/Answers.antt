use Rattle.std.proofs.lemmas.Result.{MatchResult-weaker}
use Rattle.hb_mixin.proofs.RefuseLemmas.{written_refused}
use Rattle.hb_mixin.proofs.command.take.Goals as goal

pub returns-in-Ok-clause-refused : goal.returns-in-Ok-clause-refused
returns-in-Ok-clause-refused c =
    MatchResult-weaker c.declare_written.result c.declare_written.ensures.refused (λ _ k. k)
    (λ r h. written_refused _ _ _ _ _ _ _ _ _ _ r c.in-Ok.ensures.admitted h)

pub returns-in-Err-clause-refused : goal.returns-in-Err-clause-refused
returns-in-Err-clause-refused c = c.in-Err.ensures.refused c.args.world.now.names _
