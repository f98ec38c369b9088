use Rattle.std.proofs.Common.{arith}
use Rattle.std.proofs.lemmas.Grind.{common_steps}
use Rattle.hb_tables.proofs.GrowLemmas.{grew_same}
use Rattle.hb_tables.proofs.tables.Tables.add_structure.Goals as goal

pub returns-in-Err-clause-grew : goal.returns-in-Err-clause-grew
returns-in-Err-clause-grew c = grew_same _ _ (grind (arith, common_steps))
