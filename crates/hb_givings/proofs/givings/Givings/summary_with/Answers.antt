use Rattle.std.proofs.Common.{◌∙◌, ap, Some, length}
use Rattle.std.specs.Option.{unwrap_or}
use Rattle.hb_sets.specs.Set.{union}
use Rattle.hb_givings.specs.Givings.{givings_at}
use Rattle.hb_givings.proofs.LookupLemmas.{summary-push}
use Rattle.hb_givings.proofs.givings.Givings.summary_with.Goals as goal

pub returns : goal.returns
returns c =
    (λ i. Some (record {
      binders = (c.unwrap_or.ensures ∙ ap (λ o. unwrap_or o (length c.args.binders.now)) c.binders-first.ensures) i;
      given = (c.union.ensures ∙ ap (λ s. union s c.args.gives.now) c.given.ensures) i;
    }))
    ∙ summary-push (givings_at c.args.self.now c.args.carrier) (record { binders = c.args.binders.now; gives = c.args.gives.now })
