use Rattle.std.proofs.Common.{◌∙◌, sym, ap, codes, map, length}
use Rattle.hb_env.specs.Plain.{trees}
use Rattle.hb_term.specs.Meaning.{tree}
use Rattle.hb_calculus.specs.Telescopes.{products, variables}
use Rattle.hb_givings.specs.Givings.{givings_at}
use Rattle.hb_hier.specs.Hierarchy.{sets}
use Rattle.hb_paths.specs.Packs.{Shape}
use Rattle.hb_paths.specs.Carriers.{asked_type, functions, instance_at}
use Rattle.hb_generated.specs.Names.{between}
use Rattle.hb_generated.specs.Reading.{numbers, needs_of, shape_of, coercion_in, value_in, condition_at}
use Rattle.hb_pack.proofs.TakenLemmas.{instance_made}
use Rattle.hb_pack.proofs.taken.instance_of.Goals as goal

pub returns-clause-instance : goal.returns-clause-instance
returns-clause-instance c N p =
    let h = c.args.hier.now in
    let T = c.args.tables.now in
    let t = c.args.t.0 in
    let us = numbers c.in_ok-asked.asked.items in
    let shape = c.in_ok-layout.ensures in
    instance_made N c.args.env.now T h c.args.carrier t _ c.in_ok-own.own.0 c.declared_name-before.result.0 c.layout.inside.pack.0 us
    (trees c.in_ok-context.context.items) (tree c.in_ok-ty.ty) (tree c.in_ok-value.value) (tree c.in_ok-body.body)
    (c.in_ok-asked.ensures ∙ ap (needs_of (sets h) (givings_at h.givings c.args.carrier)) c.mix.ensures)
    c.declared_name-before.ensures
    (ap (between N c.declared_name-before.result.0 (codes "_is_")) (sym c.name_of.ensures) ∙ c.in_ok-own.ensures.number N p)
    (c.in_ok-context.ensures (sets h) ∙ ap (λ l. map (asked_type (shape_of T (sets h))) (numbers l)) c.deref.ensures.value)
    (ap (λ (S : Shape). S.pack) (c.layout.view_is ∙ shape))
    (c.in_ok-ty.ensures ∙ ap (λ l. products (trees l) (tree c.former.result)) c.deref-2.ensures.value ∙ ap (products (trees c.in_ok-context.context.items)) c.former.ensures)
    (c.in_ok-value.ensures
    ∙ ap (λ l. instance_at (shape_of T (sets h)) (coercion_in T) c.args.carrier (value_in T c.args.carrier) (condition_at h c.args.carrier) c.in_ok-layout.layout (numbers l) (variables (length (numbers l)) 0)) c.deref-3.ensures.value
    ∙ ap (λ (S : Shape). instance_at (shape_of T (sets h)) (coercion_in T) c.args.carrier (value_in T c.args.carrier) (condition_at h c.args.carrier) S us (variables (length us) 0)) shape)
    (c.in_ok-body.ensures ∙ ap (λ l. functions (trees l) (tree c.in_ok-value.value)) c.deref-4.ensures.value)
