use Rattle.std.proofs.Common.{◌≡◌, ap, ◌∙◌}
use Rattle.hb_hier.specs.Hierarchy.{brought}
use Rattle.hb_world.specs.Taking.{factory_names}
use Rattle.hb_structure.specs.Refusing.{not_declared}
use Rattle.hb_structure.proofs.command.take.Goals as goal

pub returns-in-Err-clause-refused : goal.returns-in-Err-clause-refused
returns-in-Err-clause-refused c =
    let h = c.args.world.now.hier in
    let x : c.brought-set.result ≡ brought h (factory_names c.args.items.now) = c.brought-set.ensures ∙ ap (brought h) (c.deref.ensures.value ∙ c.in-Ok.ensures) in
    not_declared c.in_ok-check_name.ensures.named c.in_ok-check_items.ensures.items (rw x at c.in_ok-check_set.ensures.allowed)
    (rw (c.deref-2.ensures.value, c.in-Ok.ensures, x) at c.in-Err.ensures.refused)
