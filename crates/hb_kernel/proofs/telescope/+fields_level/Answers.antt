use Rattle.std.proofs.Common.{◌≡◌, ◌∷◌, length, arith, ap}
use Rattle.std.specs.List.{between}
use Rattle.hb_term.specs.Meaning.{tree}
use Rattle.hb_calculus.specs.Declarations.{field_types}
use Rattle.hb_calculus.specs.Budget.{budget}
use Rattle.hb_env.specs.Plain.{plain_fields}
use Rattle.hb_kernel.specs.Contexts.{types}
use Rattle.hb_kernel.proofs.SizeLemmas.{split-first, no-item}
use Rattle.hb_kernel.proofs.TelescopeLemmas.{first-fault, later-fault, level-end, level-more}
use Rattle.hb_kernel.proofs.telescope.+fields_level.Goals as goal

pub returns-in-Err-clause-fault : goal.returns-in-Err-clause-fault
returns-in-Err-clause-fault t c =
    let fs = c.args.fields.now in
    let f = c.first-item.result in
    let e : fs ≡ f ∷ between 1 (length fs) fs = split-first fs f (omega (arith, c.in-len1-up.len_at_least)) c.first-item.is in
    first-fault c.args.env.now (budget c.args.limits.now) (types c.args.context.now) (field_types (plain_fields fs)) (field_types (plain_fields (between 1 (length fs) fs))) (tree f.1) c.in-Err.fault
    (ap (λ xs. field_types (plain_fields xs)) e) c.in-Err.ensures.fault

pub returns-in-empty-clause-level : goal.returns-in-empty-clause-level
returns-in-empty-clause-level t c =
    let fs = c.args.fields.now in
    level-end c.args.env.now (budget c.args.limits.now) (types c.args.context.now) (field_types (plain_fields fs))
    (ap (λ xs. field_types (plain_fields xs)) (no-item fs c.in-empty.len_below))

pub returns-in-Ok-fields_level-clause-level : goal.returns-in-Ok-fields_level-clause-level
returns-in-Ok-fields_level-clause-level t c =
    let fs = c.args.fields.now in
    let f = c.first-item.result in
    let e : fs ≡ f ∷ between 1 (length fs) fs = split-first fs f (omega (arith, c.in-len1-up.len_at_least)) c.first-item.is in
    level-more c.args.env.now (budget c.args.limits.now) (types c.args.context.now) (field_types (plain_fields fs)) (field_types (plain_fields (between 1 (length fs) fs))) (tree f.1) c.in-Ok.s c.in-Ok-fields_level.level c.raised.result
    (ap (λ xs. field_types (plain_fields xs)) e) c.in-Ok.ensures.sort c.in-Ok-fields_level.ensures.level c.raised.ensures

pub returns-in-Err-fields_level-clause-fault : goal.returns-in-Err-fields_level-clause-fault
returns-in-Err-fields_level-clause-fault t c =
    let fs = c.args.fields.now in
    let f = c.first-item.result in
    let e : fs ≡ f ∷ between 1 (length fs) fs = split-first fs f (omega (arith, c.in-len1-up.len_at_least)) c.first-item.is in
    later-fault c.args.env.now (budget c.args.limits.now) (types c.args.context.now) (field_types (plain_fields fs)) (field_types (plain_fields (between 1 (length fs) fs))) (tree f.1) c.in-Ok.s c.in-Err-fields_level.fault
    (ap (λ xs. field_types (plain_fields xs)) e) c.in-Ok.ensures.sort c.in-Err-fields_level.ensures.fault
