use Rattle.std.proofs.Common.{◌∙◌, sym, ap, arith, inl, inr, Some, ◌<◌}
use Rattle.hb_term.specs.Meaning.{tree}
use Rattle.hb_reduce.proofs.FieldLemmas.{no-eta-last, no-eta-record, no-eta-built, no-eta-ends, full-eta, not-projection}
use Rattle.hb_reduce.proofs.eta.record_eta.Goals as goal

pub returns-in_default : goal.returns-in_default
returns-in_default c = no-eta-last _ _ c.requires.0 _ c.requires.1 (not-projection _ _ c.as_ref.ensures c.in_default.not-Proj)

pub returns-in_default-sizes : goal.returns-in_default-sizes
returns-in_default-sizes c =
    no-eta-record _ _ c.requires.0 _ c.requires.1 _ _ _ (sym c.as_ref.ensures ∙ ap tree c.in-Proj.is) c.in_default-sizes.ensures.sizes

pub returns-then-fields-eq0 : goal.returns-then-fields-eq0
returns-then-fields-eq0 c =
    no-eta-built _ _ c.requires.0 _ c.requires.1 _ _ _ (sym c.as_ref.ensures ∙ ap tree c.in-Proj.is) _ _ c.in-Some.ensures.sizes
    (inl c.if-fields-eq0.true)

pub returns-then-not-is_built : goal.returns-then-not-is_built
returns-then-not-is_built c =
    no-eta-built _ _ c.requires.0 _ c.requires.1 _ _ _ (sym c.as_ref.ensures ∙ ap tree c.in-Proj.is) _ _ c.in-Some.ensures.sizes
    (inr (sym c.if-not-is_built.ensures))

pub returns-then-not-ends_with : goal.returns-then-not-ends_with
returns-then-not-ends_with c =
    no-eta-ends _ _ c.requires.0 _ c.requires.1 _ _ _ (sym c.as_ref.ensures ∙ ap tree c.in-Proj.is) _ _ c.in-Some.ensures.sizes
    (sym c.if-not-ends_with.ensures)

pub returns : goal.returns
returns c =
    let h = c.if-fields-eq0.false in
    let some : 0 < c.in-Some.fields = omega arith in
    ap Some c.in_ok-share.ensures
    ∙ full-eta _ _ _ _ _ _ c.in-Some.ensures.sizes some (sym c.if-not-is_built.ensures) (sym c.if-not-ends_with.ensures)
