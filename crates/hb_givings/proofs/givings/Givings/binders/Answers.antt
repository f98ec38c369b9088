use Rattle.std.proofs.Common.{sym, ap, ◌∙◌, List, Some}
use Rattle.hb_givings.specs.Givings.{Given, givings_at, binder_count}
use Rattle.hb_givings.proofs.LookupLemmas.{summary-count, summary-none}
use Rattle.hb_givings.proofs.givings.Givings.binders.Goals as goal

pub returns-in-Some : goal.returns-in-Some
returns-in-Some c =
    ap Some c.binders.ensures
    ∙ summary-count (givings_at c.self.inside.instances.items c.args.carrier) c.in-Some.summary.now (c.in-Some.ensures.value ∙ c.self.invariant.summed c.args.carrier)
    ∙ ap (λ (gs : List Given). binder_count (givings_at gs c.args.carrier)) c.self.view_is

pub returns-in-None : goal.returns-in-None
returns-in-None c =
    sym (ap binder_count (summary-none (givings_at c.self.inside.instances.items c.args.carrier) (c.in-None.ensures.value ∙ c.self.invariant.summed c.args.carrier)))
    ∙ ap (λ (gs : List Given). binder_count (givings_at gs c.args.carrier)) c.self.view_is
