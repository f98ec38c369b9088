use Rattle.std.proofs.Common.{refl}
use Rattle.hb_structure.specs.Refusing.{no_shape, not_grouped, wants}
use Rattle.hb_structure.proofs.GrowLemmas.{since_of, hier_same, tables_same}
use Rattle.hb_structure.proofs.declaring.shaped.Goals as goal

pub returns-in-Err-clause-since : goal.returns-in-Err-clause-since
returns-in-Err-clause-since c = since_of _ _ _ c.shape.ensures.names (hier_same _ _ refl) (tables_same _ _ refl) refl

pub returns-in-Err-clause-refused : goal.returns-in-Err-clause-refused
returns-in-Err-clause-refused c = no_shape _ c.shape.ensures.names (rw c.env-env.ensures.same at c.in-Err.ensures.refused)

pub returns-in-Err-roles_of-clause-since : goal.returns-in-Err-roles_of-clause-since
returns-in-Err-roles_of-clause-since c = since_of _ _ _ c.shape.ensures.names (hier_same _ _ refl) (tables_same _ _ refl) refl

pub returns-in-Err-roles_of-clause-refused : goal.returns-in-Err-roles_of-clause-refused
returns-in-Err-roles_of-clause-refused c = wants c.in-Err-roles_of.ensures

pub returns-in-Err-grouped-clause-since : goal.returns-in-Err-grouped-clause-since
returns-in-Err-grouped-clause-since c = since_of _ _ _ c.shape.ensures.names c.grouped.ensures.grew (tables_same _ _ refl) refl

pub returns-in-Err-grouped-clause-refused : goal.returns-in-Err-grouped-clause-refused
returns-in-Err-grouped-clause-refused c = not_grouped c.in-Err-grouped.ensures.refused

pub returns-in-Err-entered-clause-refused : goal.returns-in-Err-entered-clause-refused
returns-in-Err-entered-clause-refused c = wants c.in-Err-entered.ensures.refused
