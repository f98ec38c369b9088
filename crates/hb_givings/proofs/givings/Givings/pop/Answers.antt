use Rattle.std.proofs.Common.{◌≡◌, List, [], ◌∷◌, ◌++◌, length, take, Option, IsSome, sym, ap, ◌∙◌, subst, arith}
use Rattle.std.proofs.lemmas.List.{length_push}
use Rattle.hb_tree.specs.declared.leaves.ConstId.{ConstId}
use Rattle.hb_givings.specs.declared.records.Summary.{Summary}
use Rattle.hb_givings.specs.Givings.{Given, givings_at, carriers_of}
use Rattle.hb_givings.specs.Kept.{AreTallied}
use Rattle.hb_givings.specs.Lookups.{summary, Puts, Sources, AreSummaries, AreSources}
use Rattle.hb_givings.proofs.LookupLemmas.{summary-there, summary-last, summaries-pop, carried-pop}
use Rattle.hb_givings.proofs.TallyLemmas.{split-tallied, last-before, last-sources, tallied-pop}
use Rattle.hb_givings.proofs.givings.Givings.pop.Goals as goal

pub restore_summary-requires : goal.restore_summary-requires
restore_summary-requires c =
    let gs = c.pop.new.self.items in
    let g = c.in-Some-Some.instance in
    let is_gs : c.self.inside.instances.items ≡ gs ++ g ∷ [] = c.in-Some-Some.ensures.items in
    subst (λ (o : Option Summary). IsSome o)
    (sym (c.self.invariant.summed c.instance.inside.carrier
    ∙ (λ i. summary (givings_at (is_gs i) (c.instance.view_is i).carrier))
    ∙ summary-there gs g))
    (summary-last (givings_at gs g.carrier) g.giving)

pub invariant_of-self : goal.invariant_of-self
invariant_of-self c =
    let old = c.self.invariant in
    let gs = c.pop.new.self.items in
    let g = c.in-Some-Some.instance in
    let ts = c.pop-2.new.self.items in
    let t = c.in-Some-Some.tally in
    let es = c.self.inside.sources.entries in
    let is_gs : c.self.inside.instances.items ≡ gs ++ g ∷ [] = c.in-Some-Some.ensures.items in
    let is_es : c.truncate.new.self.entries ≡ take t.sources es = c.truncate.ensures.entries in
    let tallied = split-tallied c.self.inside.instances.items gs g es c.self.inside.tallies.items ts t is_gs c.in-Some-Some.ensures'.items old.tallied in
    let before = last-before gs g es ts t tallied in
    let put : Puts c.self.inside.summaries.entries g.carrier t.before c.restore_summary.new.summaries.entries =
    subst (λ (k : ConstId). Puts c.self.inside.summaries.entries k t.before c.restore_summary.new.summaries.entries) (ap (λ (i : Given). i.carrier) c.instance.view_is) c.restore_summary.ensures in
    record {
      few = omega (arith, ap length is_gs, length_push gs g, old.few);
      none = old.none;
      carried = carried-pop gs g c.self.inside.carriers.items _ t.before (old.carried ∙ ap carriers_of is_gs) before c.remove_carrier.ensures;
      summed = summaries-pop gs g c.self.inside.summaries.entries _ t.before (subst (λ (l : List Given). AreSummaries l c.self.inside.summaries.entries) is_gs old.summed) before put;
      sourced = subst (λ (l : Sources). AreSources gs l) (sym is_es) (last-sources gs g es ts t tallied);
      tallied = subst (λ (l : Sources). AreTallied gs l ts) (sym is_es) (tallied-pop gs g es ts t tallied);
    }
