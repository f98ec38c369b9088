use Rattle.std.proofs.Common.{refl}
use Rattle.hb_builder.proofs.command.apply.Goals as goal

pub returns-in-Ok-clause-head : goal.returns-in-Ok-clause-head
returns-in-Ok-clause-head c = rw c.in-Builders.is (c.in-Ok.entry, refl, c.in-Ok.ensures.head)

pub returns-in-Ok-end-clause-head : goal.returns-in-Ok-end-clause-head
returns-in-Ok-end-clause-head c = rw c.in-End.is (c.ended.result, refl, c.ended.ensures.head)
