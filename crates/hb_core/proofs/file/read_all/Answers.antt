use Rattle.hb_core.proofs.PlaceLemmas.{token_at, extends_more}
use Rattle.hb_core.proofs.file.read_all.Goals as goal

pub returns-in-Err-clause-refused : goal.returns-in-Err-clause-refused
returns-in-Err-clause-refused c = λ r bytes. c.in-Err.ensures.refused r bytes c.args.tokens.now (token_at c.args.tokens.now c.loop-token.token-index _ c.loop-token-test.true)

pub loop-token-preserved : goal.loop-token-preserved
loop-token-preserved c =
    let ts = c.args.tokens.now in
    (extends_more _ _ _ c.loop-token.invariant.0 c.in-Ok.ensures.kept, c.first_missed-unknown.ensures ts c.loop-token.invariant.1 (token_at ts c.loop-token.token-index _ c.loop-token-test.true))
