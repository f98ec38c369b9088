use Rattle.std.proofs.Common.{ap, ◌∙◌, List}
use Rattle.hb_order.specs.Givings.{condition}
use Rattle.hb_givings.specs.Givings.{Given, givings_at}
use Rattle.hb_givings.proofs.LookupLemmas.{condition-some, condition-none, source-within}
use Rattle.hb_givings.proofs.givings.Givings.condition.Goals as goal

pub binders_at-requires : goal.binders_at-requires
binders_at-requires c =
    source-within c.self.inside.instances.items c.args.carrier c.args.m.0 c.in-Some.at.now (c.in-Some.ensures.value ∙ c.self.invariant.sourced c.args.carrier c.args.m.0)

pub returns-in-Some : goal.returns-in-Some
returns-in-Some c =
    c.binders_at.ensures
    ∙ condition-some c.self.inside.instances.items c.args.carrier c.args.m.0 c.in-Some.at.now (c.in-Some.ensures.value ∙ c.self.invariant.sourced c.args.carrier c.args.m.0)
    ∙ ap (λ (gs : List Given). condition (givings_at gs c.args.carrier) c.args.m.0) c.self.view_is

pub returns-in-None : goal.returns-in-None
returns-in-None c =
    condition-none c.self.inside.instances.items c.args.carrier c.args.m.0 (c.in-None.ensures.value ∙ c.self.invariant.sourced c.args.carrier c.args.m.0)
    ∙ ap (λ (gs : List Given). condition (givings_at gs c.args.carrier) c.args.m.0) c.self.view_is
