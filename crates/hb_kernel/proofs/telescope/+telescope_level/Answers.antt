use Rattle.std.proofs.Common.{◌≡◌, ◌∷◌, length, arith, ap}
use Rattle.std.specs.List.{between}
use Rattle.hb_term.specs.Meaning.{tree}
use Rattle.hb_calculus.specs.Declarations.{field_types}
use Rattle.hb_calculus.specs.Budget.{budget}
use Rattle.hb_env.specs.Plain.{trees, plain_fields}
use Rattle.hb_kernel.specs.Contexts.{types}
use Rattle.hb_kernel.proofs.SizeLemmas.{split-first, no-item}
use Rattle.hb_kernel.proofs.TelescopeLemmas.{param-fault, field-fault, rest-fault, telescope-end, telescope-more}
use Rattle.hb_kernel.proofs.telescope.+telescope_level.Goals as goal

pub returns-in-Err-type_sort-clause-fault : goal.returns-in-Err-type_sort-clause-fault
returns-in-Err-type_sort-clause-fault t c =
    let ps = c.args.params.now in
    let p = c.first-item.result in
    let e : ps ≡ p ∷ between 1 (length ps) ps = split-first ps p (omega (arith, c.in-len1-up.len_at_least)) c.first-item.is in
    param-fault c.args.env.now (budget c.args.limits.now) (types c.args.context.now) (trees ps) (trees (between 1 (length ps) ps)) (field_types (plain_fields c.args.fields.now)) (tree p) c.in-Err-type_sort.fault
    (ap trees e) c.in-Err-type_sort.ensures.fault

pub returns-in-Ok-clause-level : goal.returns-in-Ok-clause-level
returns-in-Ok-clause-level t c =
    telescope-end c.args.env.now (budget c.args.limits.now) (types c.args.context.now) (trees c.args.params.now) (field_types (plain_fields c.args.fields.now)) c.in-Ok.level
    (ap trees (no-item c.args.params.now c.in-empty.len_below)) c.in-Ok.ensures.level

pub returns-in-Err-clause-fault : goal.returns-in-Err-clause-fault
returns-in-Err-clause-fault t c =
    field-fault c.args.env.now (budget c.args.limits.now) (types c.args.context.now) (trees c.args.params.now) (field_types (plain_fields c.args.fields.now)) c.in-Err.fault
    (ap trees (no-item c.args.params.now c.in-empty.len_below)) c.in-Err.ensures.fault

pub returns-in-Ok-telescope_level-clause-level : goal.returns-in-Ok-telescope_level-clause-level
returns-in-Ok-telescope_level-clause-level t c =
    let ps = c.args.params.now in
    let p = c.first-item.result in
    let e : ps ≡ p ∷ between 1 (length ps) ps = split-first ps p (omega (arith, c.in-len1-up.len_at_least)) c.first-item.is in
    telescope-more c.args.env.now (budget c.args.limits.now) (types c.args.context.now) (trees ps) (trees (between 1 (length ps) ps)) (field_types (plain_fields c.args.fields.now)) (tree p) c.in-Ok-type_sort.field-0 c.in-Ok-telescope_level.level
    (ap trees e) c.in-Ok-type_sort.ensures.sort c.in-Ok-telescope_level.ensures.level

pub returns-in-Err-telescope_level-clause-fault : goal.returns-in-Err-telescope_level-clause-fault
returns-in-Err-telescope_level-clause-fault t c =
    let ps = c.args.params.now in
    let p = c.first-item.result in
    let e : ps ≡ p ∷ between 1 (length ps) ps = split-first ps p (omega (arith, c.in-len1-up.len_at_least)) c.first-item.is in
    rest-fault c.args.env.now (budget c.args.limits.now) (types c.args.context.now) (trees ps) (trees (between 1 (length ps) ps)) (field_types (plain_fields c.args.fields.now)) (tree p) c.in-Ok-type_sort.field-0 c.in-Err-telescope_level.fault
    (ap trees e) c.in-Ok-type_sort.ensures.sort c.in-Err-telescope_level.ensures.fault
