use Rattle.std.proofs.Common.{refl, ap, ◌∙◌}
use Rattle.hb_world.specs.Taking.{factory_names}
use Rattle.hb_structure.proofs.command.apply.Goals as goal

pub returns-in-Ok-clause-head : goal.returns-in-Ok-clause-head
returns-in-Ok-clause-head c =
    let h = c.in-Ok.ensures.head in
    rw c.in-Structure.is (c.in-Ok.entry, refl, (h.0, h.1, h.2 ∙ ap factory_names c.deref.ensures.value))
