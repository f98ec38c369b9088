use Rattle.hb_plain.specs.Loading.{not_loaded, not_added}
use Rattle.hb_plain.proofs.RefusalLemmas.{if_err_both, still_none}
use Rattle.hb_plain.proofs.replaying.replay_axiom.Goals as goal

pub returns-in-Ok-clause-refused : goal.returns-in-Ok-clause-refused
returns-in-Ok-clause-refused c =
    let none = still_none c.args.world.now.section c.in-Ok.ensures.outside in
    if_err_both
    c.add.result
    (λ r h g. not_loaded none (not_added c.in-Ok.ensures.declared c.in-Ok.ensures.free h g))
    c.add.ensures.place
    c.add.ensures.refused
