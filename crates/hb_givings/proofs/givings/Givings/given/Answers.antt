use Rattle.std.proofs.Common.{sym, ap, ◌∙◌, List}
use Rattle.hb_order.specs.Givings.{given}
use Rattle.hb_givings.specs.Givings.{Given, givings_at}
use Rattle.hb_givings.proofs.LookupLemmas.{summary-given, summary-none}
use Rattle.hb_givings.proofs.givings.Givings.given.Goals as goal

pub returns-in-Some : goal.returns-in-Some
returns-in-Some c =
    summary-given (givings_at c.self.inside.instances.items c.args.carrier) c.in-Some.summary.now (c.in-Some.ensures.value ∙ c.self.invariant.summed c.args.carrier)
    ∙ ap (λ (gs : List Given). given (givings_at gs c.args.carrier)) c.self.view_is

pub returns-in-None : goal.returns-in-None
returns-in-None c =
    c.self.invariant.none
    ∙ sym (ap given (summary-none (givings_at c.self.inside.instances.items c.args.carrier) (c.in-None.ensures.value ∙ c.self.invariant.summed c.args.carrier)))
    ∙ ap (λ (gs : List Given). given (givings_at gs c.args.carrier)) c.self.view_is
