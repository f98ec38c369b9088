use Rattle.hb_step.proofs.SinceLemmas.{since_trans}
use Rattle.hb_structure.specs.Refusing.{wants}
use Rattle.hb_structure.proofs.MakeLemmas.{makes}
use Rattle.hb_structure.proofs.declaring.made.Goals as goal

pub returns-in-Ok-served-clause-since : goal.returns-in-Ok-served-clause-since
returns-in-Ok-served-clause-since c = since_trans _ _ _ _ _ _ c.in-Ok.ensures.since c.served.ensures.since

pub returns-in-Ok-served-clause-made : goal.returns-in-Ok-served-clause-made
returns-in-Ok-served-clause-made c =
    let t = c.in-Ok.ensures.tables in
    makes _ _ _ _ _ _ _ t.0 _ _ _ _ c.served.ensures.since.names c.in-Ok.ensures.shape t.1 c.in-Ok.ensures.hier c.in-Ok-served.ensures.more

pub returns-in-Err-served-clause-since : goal.returns-in-Err-served-clause-since
returns-in-Err-served-clause-since c = since_trans _ _ _ _ _ _ c.in-Ok.ensures.since c.served.ensures.since

pub returns-in-Err-served-clause-refused : goal.returns-in-Err-served-clause-refused
returns-in-Err-served-clause-refused c = wants c.in-Err-served.ensures.refused
