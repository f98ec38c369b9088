use Rattle.std.proofs.Common.{ap, subst, ◌∙◌}
use Rattle.std.specs.Option.{option_map}
use Rattle.hb_world.specs.Taking.{binder_names}
use Rattle.hb_world.specs.Worlds.{opened}
use Rattle.hb_instance.specs.Giving.{after, IsTarget, Keeps}
use Rattle.hb_instance.proofs.GiveLemmas.{asked_words, gives_at}
use Rattle.hb_instance.proofs.command.take.Goals as goal

pub returns-clause-hier : goal.returns-clause-hier
returns-clause-hier c =
    gives_at (option_map opened c.args.world.now.section) c.args.theory.now c.args.written.factory.name c.args.written.carrier.name (binder_names c.args.written.binders.now)
    c.in_ok-allowed.allowed.target c.args.world.now.hier c.finish.new.world.hier
    (subst (λ l. IsTarget (option_map opened c.args.world.now.section) c.args.theory.now c.args.written.carrier.name l c.in_ok-allowed.allowed.target)
    (asked_words c.args.world.now.hier c.args.written.binders.now) c.in_ok-allowed.ensures.target)
    (c.in_ok-decls.ensures.gave ∙ ap (λ f. after c.args.world.now.hier c.in_ok-allowed.allowed.target f) c.in_ok-allowed.ensures.factory)

pub returns-clause-section : goal.returns-clause-section
returns-clause-section c =
    subst (λ x. Keeps x (option_map opened c.args.world.now.section) (option_map opened c.finish.new.world.section))
    c.in_ok-allowed.ensures.gives c.in_ok-decls.ensures.section
