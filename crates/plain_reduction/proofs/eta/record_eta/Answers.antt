use Rattle.std.proofs.Common.{◌≡◌, ◌∙◌, sym, ap, arith, length, drop, ◌+◌}
use Rattle.std.specs.Prelude.{Some, None, cond}
use Rattle.hb_term.specs.Meaning.{tree}
use Rattle.plain_reduction.proofs.EtaLemmas.{record-eta}
use Rattle.plain_reduction.proofs.eta.record_eta.Goals as goal

pub returns-then-are_projections : goal.returns-then-are_projections
returns-then-are_projections c =
    ap Some c.in_ok-share-in-Some-projected.ensures
    ∙ ap (λ b. cond b (Some c.in-Some-projected.of.now) None) (c.if-are_projections.ensures)
    ∙ sym
    (record-eta _ _ _ _ _ _ _ _ _ _ c.requires.2 (sym (ap tree c.in-Const.is) ∙ c.as_ref.ensures ∙ c.head.ensures) c.if-not-c.false
    c.in-Some.ensures.sizes c.in_ok-given.ensures
    (let e : length c.in_ok-given.given.items ≡ c.in-Some.params + c.in-Some.fields = omega (arith, c.len.ensures, c.if-len-params.false) in e)
    (c.behind-made.ensures ∙ ap (drop c.in-Some.params) c.as_slice.ensures.value) c.in-Some-projected.ensures)

pub returns-in-Some-projected : goal.returns-in-Some-projected
returns-in-Some-projected c =
    ap (λ b. cond b (Some c.in-Some-projected.of.now) None) (c.if-are_projections.ensures)
    ∙ sym
    (record-eta _ _ _ _ _ _ _ _ _ _ c.requires.2 (sym (ap tree c.in-Const.is) ∙ c.as_ref.ensures ∙ c.head.ensures) c.if-not-c.false
    c.in-Some.ensures.sizes c.in_ok-given.ensures
    (let e : length c.in_ok-given.given.items ≡ c.in-Some.params + c.in-Some.fields = omega (arith, c.len.ensures, c.if-len-params.false) in e)
    (c.behind-made.ensures ∙ ap (drop c.in-Some.params) c.as_slice.ensures.value) c.in-Some-projected.ensures)
