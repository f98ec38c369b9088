use Rattle.hb_reduce.proofs.EnvLemmas.{scoped-closed}
use Rattle.plain_reduction.proofs.reduce.definitions_are_closed.Goals as goal

pub returns : goal.returns
returns c = scoped-closed _ c.len-count.ensures.valid.scoped
