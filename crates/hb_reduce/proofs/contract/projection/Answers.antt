use Rattle.std.proofs.Common.{◌∙◌, sym, ap, arith, inl, inr, Some, ◌<◌, ◌≤◌, ◌-◌}
use Rattle.hb_reduce.specs.Spines.{argument}
use Rattle.hb_reduce.proofs.FieldLemmas.{no-field, field-argument}
use Rattle.hb_reduce.proofs.contract.projection.Goals as goal

pub returns-then-field-fields : goal.returns-then-field-fields
returns-then-field-fields c =
    let h = c.if-field-fields.true in
    let k : c.in-Some.fields ≤ c.args.field = omega (arith, c.from-field.ensures) in
    sym (no-field _ _ _ _ _ c.args.of.now c.in-Some.ensures.sizes (inl k))

pub returns-then-not-is_built : goal.returns-then-not-is_built
returns-then-not-is_built c = sym (no-field _ _ _ _ _ c.args.of.now c.in-Some.ensures.sizes (inr (sym c.if-not-is_built.ensures)))

pub returns-in_ok-share-in-Some-argument : goal.returns-in_ok-share-in-Some-argument
returns-in_ok-share-in-Some-argument c =
    let h = c.if-field-fields.false in
    let k : c.args.field < c.in-Some.fields = omega (arith, c.from-field.ensures) in
    ap Some c.in_ok-share-in-Some-argument.ensures
    ∙ c.in-Some-argument.ensures
    ∙ ap (λ i. argument c.args.of.now (c.in-Some.fields - 1 - i)) c.from-field.ensures
    ∙ sym (field-argument _ _ _ _ _ c.args.of.now c.in-Some.ensures.sizes k (sym c.if-not-is_built.ensures))

pub returns-in-None : goal.returns-in-None
returns-in-None c =
    let h = c.if-field-fields.false in
    let k : c.args.field < c.in-Some.fields = omega (arith, c.from-field.ensures) in
    c.in-None.ensures
    ∙ ap (λ i. argument c.args.of.now (c.in-Some.fields - 1 - i)) c.from-field.ensures
    ∙ sym (field-argument _ _ _ _ _ c.args.of.now c.in-Some.ensures.sizes k (sym c.if-not-is_built.ensures))
