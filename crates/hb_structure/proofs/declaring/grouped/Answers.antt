use Rattle.std.proofs.Common.{refl}
use Rattle.hb_structure.specs.Refusing.{not_added}
use Rattle.hb_structure.proofs.declaring.grouped.Goals as goal

pub returns-in-Err-clause-refused : goal.returns-in-Err-clause-refused
returns-in-Err-clause-refused c =
    not_added c.in-Err.fault c.in-Err.ensures.refused (rw (c.refused-in-Err.ensures, c.of_hierarchy.ensures, c.in-Err.ensures.unchanged) refl)
