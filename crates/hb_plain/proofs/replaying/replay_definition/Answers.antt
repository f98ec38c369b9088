use Rattle.hb_plain.specs.Loading.{not_added}
use Rattle.hb_plain.proofs.RefusalLemmas.{if_err_both}
use Rattle.hb_plain.proofs.replaying.replay_definition.Goals as goal

pub returns-in-Ok-clause-refused : goal.returns-in-Ok-clause-refused
returns-in-Ok-clause-refused c =
    if_err_both
    c.define.result
    (λ r h g. not_added c.in-Ok.ensures.declared c.in-Ok.ensures.free h g)
    c.define.ensures.place
    c.define.ensures.refused
