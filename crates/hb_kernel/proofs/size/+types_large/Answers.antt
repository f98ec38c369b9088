use Rattle.std.proofs.Common.{◌≡◌, ◌∷◌, ◌++◌, length, arith, ap, sym, true≢false}
use Rattle.std.specs.List.{between}
use Rattle.hb_term.specs.Meaning.{tree}
use Rattle.hb_calculus.specs.Declarations.{field_types}
use Rattle.hb_calculus.specs.Budget.{budget}
use Rattle.hb_env.specs.Plain.{trees, plain_fields}
use Rattle.hb_kernel.proofs.SizeLemmas.{split-first, later-large}
use Rattle.hb_kernel.proofs.size.+types_large.Goals as goal

pub returns-in_ok-deeper-in-len1-up : goal.returns-in_ok-deeper-in-len1-up
returns-in_ok-deeper-in-len1-up t c =
    let ps = c.args.params.now in
    let us = field_types (plain_fields c.args.fields.now) in
    let p = c.first-item.result in
    let e : ps ≡ p ∷ between 1 (length ps) ps = split-first ps p (omega (arith, c.in-len1-up.len_at_least)) c.first-item.is in
    later-large (budget c.args.limits.now) (trees ps ++ us) (trees (between 1 (length ps) ps) ++ us) (tree p) c.args.under c.in_ok-deeper-in-len1-up.field-0 c.types_large.result (ap (λ xs. trees xs ++ us) e)
    c.in_ok-deeper-in-len1-up.ensures (λ x. true≢false (sym (c.if-is_large.ensures.1 x))) c.types_large.ensures
