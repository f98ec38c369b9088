use Rattle.std.proofs.Common.{◌≡◌, List, [], ◌∷◌, ◌++◌, length, Some, sym, ap, ◌∙◌, subst, arith}
use Rattle.std.proofs.lemmas.List.{length_push}
use Rattle.hb_givings.specs.declared.records.Tally.{Tally}
use Rattle.hb_givings.specs.Givings.{Given, givings_at, carriers_of}
use Rattle.hb_givings.specs.Lookups.{summary, with_new, AreSummaries, AreSources}
use Rattle.hb_givings.proofs.LookupLemmas.{summaries-push, sources-push, carried-push}
use Rattle.hb_givings.proofs.TallyLemmas.{tallied-push, joined-tallied}
use Rattle.hb_givings.proofs.givings.Givings.push.Goals as goal

pub invariant_of-self-in-Ok : goal.invariant_of-self-in-Ok
invariant_of-self-in-Ok c =
    let old = c.self.invariant in
    let gs = c.self.inside.instances.items in
    let es = c.self.inside.sources.entries in
    let ts = c.self.inside.tallies.items in
    let view : gs ≡ c.args.self.now = c.self.view_is in
    let g : Given = record { carrier = c.args.carrier; giving = record { binders = c.in_ok-binders.binders.items; gives = c.args.gives } } in
    let t : Tally = record { before = c.in-Ok.before; sources = c.len-sources.result } in
    let is_gs : c.push_reserved-in-Ok.new.self.items ≡ gs ++ g ∷ [] = c.push_reserved-in-Ok.ensures.items ∙ ap (λ l. l ++ g ∷ []) c.in_ok-reserve.ensures.items in
    let is_ts : c.push_reserved.new.self.items ≡ ts ++ t ∷ [] = c.push_reserved.ensures.items ∙ ap (λ l. l ++ t ∷ []) c.in_ok-reserve-2.ensures.items in
    let had : c.in-Ok.before ≡ summary (givings_at gs c.args.carrier) = c.in-Ok.ensures.before ∙ old.summed c.args.carrier in
    let is_summary : Some c.summary_with-summary.result ≡ summary (givings_at gs c.args.carrier ++ g.giving ∷ []) =
    c.summary_with-summary.ensures ∙ (λ i. summary (givings_at (sym view i) c.args.carrier ++ record { binders = sym c.in_ok-binders.ensures.items i; gives = c.args.gives } ∷ [])) in
    let is_ks = c.add_carrier.ensures ∙ ap (λ l. with_new l c.args.carrier c.in-Ok.before) c.in_ok-reserve-3.ensures.items in
    record {
      few = omega (arith, ap length is_gs, length_push gs g, ap length view, c.requires.room);
      none = old.none;
      carried = carried-push gs g c.self.inside.carriers.items _ c.in-Ok.before old.carried had is_ks ∙ ap carriers_of (sym is_gs);
      summed = subst (λ (l : List Given). AreSummaries l c.put_summary.new.summaries.entries) (sym is_gs)
          (summaries-push gs g c.self.inside.summaries.entries _ c.summary_with-summary.result old.summed is_summary c.in-Ok.ensures.put);
      sourced = subst (λ (l : List Given). AreSources l c.add_sources.new.sources.entries) (sym is_gs)
          (sources-push gs g es _ c.len-at.result (c.len-at.ensures.count ∙ ap length (sym view)) old.sourced c.in_ok-add_sources.ensures.added);
      tallied = joined-tallied _ gs g c.add_sources.new.sources.entries _ ts t is_gs is_ts
          (tallied-push gs g es c.add_sources.new.sources.entries ts t c.in_ok-add_sources.ensures.kept old.sourced old.tallied had c.len-sources.ensures.len);
    }
