use Rattle.std.proofs.Common.{refl}
use Rattle.hb_plain.specs.Refusing.{no_memory}
use Rattle.hb_plain.proofs.definition.define.Goals as goal

pub returns-in_default-clause-refused : goal.returns-in_default-clause-refused
returns-in_default-clause-refused c = rw c.refused.ensures (no_memory refl)
