use Rattle.std.proofs.Common.{refl, ap, subst, ◌∙◌}
use Rattle.std.specs.Option.{option_map}
use Rattle.hb_world.specs.Taking.{binder_names}
use Rattle.hb_world.specs.Worlds.{opened}
use Rattle.hb_instance.specs.Giving.{Gives}
use Rattle.hb_instance.proofs.command.apply.Goals as goal

pub returns-in-Ok-clause-head : goal.returns-in-Ok-clause-head
returns-in-Ok-clause-head c =
    let h = c.in-Ok.ensures.head in
    rw c.in-Instance.is (c.in-Ok.entry, refl, (h.0, h.1, h.2 ∙ ap binder_names c.deref.ensures.value))

pub returns-in-Ok-clause-hier : goal.returns-in-Ok-clause-hier
returns-in-Ok-clause-hier c =
    rw c.in-Instance.is
    (subst (λ l. Gives (option_map opened c.args.world.now.section) c.args.theory.now c.in-Instance.factory.name c.in-Instance.carrier.name (binder_names l) c.args.world.now.hier c.take.new.world.hier)
    c.deref.ensures.value c.in-Ok.ensures.hier)

pub returns-in-Ok-clause-section : goal.returns-in-Ok-clause-section
returns-in-Ok-clause-section c = rw c.in-Instance.is c.in-Ok.ensures.section
