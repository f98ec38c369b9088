use Rattle.std.proofs.Common.{refl}
use Rattle.hb_plain.proofs.command.apply.Goals as goal

pub returns-in-Ok-clause-head : goal.returns-in-Ok-clause-head
returns-in-Ok-clause-head c = rw c.in-Axiom.is (c.in-Ok.entry, refl, c.in-Ok.ensures.head)

pub returns-in-Ok-definition-clause-head : goal.returns-in-Ok-definition-clause-head
returns-in-Ok-definition-clause-head c =
    rw c.in-Definition.is (c.in-Ok-definition.entry, refl, c.in-Ok-definition.ensures.head)
