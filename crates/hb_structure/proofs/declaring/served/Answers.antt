use Rattle.std.proofs.Common.{refl}
use Rattle.hb_structure.proofs.GrowLemmas.{since_of, hier_same, tables_same}
use Rattle.hb_structure.proofs.declaring.served.Goals as goal

pub returns-in-Err-clause-since : goal.returns-in-Err-clause-since
returns-in-Err-clause-since c = since_of _ _ _ c.instances.ensures.names (hier_same _ _ refl) (tables_same _ _ refl) refl

pub returns-in-Ok-joined-clause-since : goal.returns-in-Ok-joined-clause-since
returns-in-Ok-joined-clause-since c = since_of _ _ _ c.instances.ensures.names (hier_same _ _ refl) c.entered_at.ensures.grew refl

pub returns-in-Ok-entered_at-clause-since : goal.returns-in-Ok-entered_at-clause-since
returns-in-Ok-entered_at-clause-since c = since_of _ _ _ c.instances.ensures.names (hier_same _ _ refl) c.entered_at.ensures.grew refl

pub returns-clause-since : goal.returns-clause-since
returns-clause-since c = since_of _ _ _ c.instances.ensures.names (hier_same _ _ refl) c.entered_at.ensures.grew refl
