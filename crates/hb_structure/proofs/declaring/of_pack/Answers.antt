use Rattle.hb_structure.specs.Refusing.{too_many_names}
use Rattle.hb_structure.proofs.declaring.of_pack.Goals as goal

pub returns-in-TooMany : goal.returns-in-TooMany
returns-in-TooMany c = too_many_names c.in-TooMany.count c.refused.ensures
