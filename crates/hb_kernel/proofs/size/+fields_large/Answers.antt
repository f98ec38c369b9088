use Rattle.std.proofs.Common.{◌≡◌, ◌∷◌, length, arith, ap, sym, ◌∙◌, refl, true≢false}
use Rattle.std.specs.List.{between}
use Rattle.hb_term.specs.Meaning.{tree}
use Rattle.hb_calculus.specs.Declarations.{field_types}
use Rattle.hb_calculus.specs.Budget.{budget}
use Rattle.hb_env.specs.Plain.{plain_fields}
use Rattle.hb_kernel.proofs.SizeLemmas.{split-first, first-large, later-large}
use Rattle.hb_kernel.proofs.size.+fields_large.Goals as goal

pub returns-then-is_large : goal.returns-then-is_large
returns-then-is_large t c =
    let fs = c.args.fields.now in
    let f = c.first-item.result in
    let e : fs ≡ f ∷ between 1 (length fs) fs = split-first fs f (omega (arith, c.in-len1-up.len_at_least)) c.first-item.is in
    first-large (budget c.args.limits.now) (field_types (plain_fields fs)) (field_types (plain_fields (between 1 (length fs) fs))) (tree f.1) c.args.under c.in_scope.result (ap (λ xs. field_types (plain_fields xs)) e)
    (ap tree c.in_scope.ensures.term ∙ ap tree c.in_ok-copy-in-len1-up.ensures) c.in_scope.ensures.depth (c.if-is_large.ensures.0 refl)

pub returns-in_ok-deeper-in-len1-up : goal.returns-in_ok-deeper-in-len1-up
returns-in_ok-deeper-in-len1-up t c =
    let fs = c.args.fields.now in
    let f = c.first-item.result in
    let e : fs ≡ f ∷ between 1 (length fs) fs = split-first fs f (omega (arith, c.in-len1-up.len_at_least)) c.first-item.is in
    later-large (budget c.args.limits.now) (field_types (plain_fields fs)) (field_types (plain_fields (between 1 (length fs) fs))) (tree f.1) c.args.under c.in_ok-deeper-in-len1-up.field-0 c.fields_large.result (ap (λ xs. field_types (plain_fields xs)) e)
    c.in_ok-deeper-in-len1-up.ensures (λ x. true≢false (sym (c.if-is_large.ensures.1 x))) c.fields_large.ensures
