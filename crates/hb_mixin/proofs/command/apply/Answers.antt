use Rattle.std.proofs.Common.{refl, ap, ◌∙◌}
use Rattle.hb_world.specs.Taking.{factory_names}
use Rattle.hb_mixin.proofs.DeclareLemmas.{mixin_declared, factory_declared}
use Rattle.hb_mixin.proofs.command.apply.Goals as goal

pub returns-in-Ok-clause-head : goal.returns-in-Ok-clause-head
returns-in-Ok-clause-head c =
    let h = c.in-Ok.ensures.head in
    rw c.in-Mixin.is (c.in-Ok.entry, refl, (h.0, h.1, h.2 ∙ ap factory_names c.deref.ensures.value))

pub returns-in-Ok-take-clause-head : goal.returns-in-Ok-take-clause-head
returns-in-Ok-take-clause-head c =
    let h = c.in-Ok-take.ensures.head in
    rw c.in-Factory.is (c.in-Ok-take.entry, refl, (h.0, h.1, h.2 ∙ ap factory_names c.deref-in-Factory.ensures.value))

pub returns-in-Ok-clause-hier : goal.returns-in-Ok-clause-hier
returns-in-Ok-clause-hier c =
    rw c.in-Mixin.is
    (mixin_declared c.args.world.now.hier c.take.new.world.hier c.in-Mixin.name c.in-Mixin.carrier _ c.in-Mixin.items.items _ c.in-Mixin.fields.items
    c.deref.ensures.value c.deref-in-Mixin.ensures.value c.in-Ok.ensures.hier)

pub returns-in-Ok-take-clause-hier : goal.returns-in-Ok-take-clause-hier
returns-in-Ok-take-clause-hier c =
    rw c.in-Factory.is
    (factory_declared c.args.world.now.hier c.take-in-Factory.new.world.hier c.in-Factory.name c.in-Factory.carrier _ c.in-Factory.items.items _ c.in-Factory.fields.items
    c.deref-in-Factory.ensures.value c.deref-in-Factory-2.ensures.value c.in-Ok-take.ensures.hier)
