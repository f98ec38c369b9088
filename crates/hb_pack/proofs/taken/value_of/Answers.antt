use Rattle.std.proofs.Common.{◌∙◌, ap, sym, map}
use Rattle.std.proofs.lemmas.List.{length-map}
use Rattle.hb_env.specs.Plain.{trees}
use Rattle.hb_term.specs.Meaning.{tree}
use Rattle.hb_calculus.specs.Telescopes.{variables}
use Rattle.hb_paths.specs.Packs.{Shape}
use Rattle.hb_generated.specs.Reading.{numbers, carrier_at, value_at}
use Rattle.hb_pack.proofs.TakenLemmas.{value_packed}
use Rattle.hb_pack.proofs.taken.value_of.Goals as goal

pub returns : goal.returns
returns c =
    let T = c.args.tables.now in
    let h = c.args.hier.now in
    let k = c.args.carrier in
    let us = numbers c.args.asked.now in
    let args = trees c.in_ok-args.args.items in
    value_packed T h k c.args.layout.now us args (trees c.deref-4.result.now) (tree c.in_ok-own.own) (tree c.in_ok-value.value)
    (c.in_ok-args.ensures ∙ ap (λ n. variables n 0) (c.in_ok-count_of.ensures ∙ sym (length-map c.args.asked.now _)))
    (c.in_ok-own.ensures h ∙ ap (λ l. carrier_at T h k us (trees l)) c.deref.ensures.value)
    (ap trees c.deref-4.ensures.value ∙ c.in_ok-values.ensures ∙ ap (λ l. map (λ m. value_at T h k us (trees l) m) c.deref-3.result.now) c.deref-2.ensures.value
    ∙ ap (map (λ m. value_at T h k us args m)) (c.deref-3.ensures.value ∙ ap (λ (S : Shape). S.mixins) c.layout.view_is))
    c.in_ok-value.ensures
