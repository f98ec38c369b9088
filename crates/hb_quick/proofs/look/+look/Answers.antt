use Rattle.std.proofs.Common.{◌∙◌, sym, ap, refl, arith, ◌+◌, ◌-◌, ◌≡◌, IsTrue}
use Rattle.hb_tree.specs.Tree.{app, proj}
use Rattle.hb_term.specs.Meaning.{tree}
use Rattle.hb_calculus.specs.Conversion.{Convertible, back}
use Rattle.hb_quick.specs.Looks.{AreReached, no_more}
use Rattle.hb_quick.proofs.LookLemmas.{pi-parts, lam-parts, app-parts, proj-parts, same-parts, by-heads, function-eta, one-projection, go-on}
use Rattle.hb_quick.proofs.LookLemmas.{maker-eta}
use Rattle.hb_quick.proofs.look.+look.Goals as goal

pub alike-returns-in_ok-found-in-Pi-Pi : goal.alike-returns-in_ok-found-in-Pi-Pi
alike-returns-in_ok-found-in-Pi-Pi t c =
    λ k. pi-parts _ _ _ _ _ _ _ (sym (ap tree c.in-Pi-Pi.is-0) ∙ c.as_ref.ensures) (sym (ap tree c.in-Pi-Pi.is-1) ∙ c.as_ref-2.ensures)
    (c.in_ok-look-in-Pi-Pi.ensures c.if-not-branch.false) (c.in_ok-found-in-Pi-Pi.ensures k)

pub alike-returns-in_ok-found-in-Lam-Lam : goal.alike-returns-in_ok-found-in-Lam-Lam
alike-returns-in_ok-found-in-Lam-Lam t c =
    λ k. lam-parts _ _ _ _ _ _ _ (sym (ap tree c.in-Lam-Lam.is-0) ∙ c.as_ref.ensures) (sym (ap tree c.in-Lam-Lam.is-1) ∙ c.as_ref-2.ensures)
    (c.in_ok-look-in-Lam-Lam.ensures c.if-not-branch-2.false) (c.in_ok-found-in-Lam-Lam.ensures k)

pub alike-returns-in_ok-found-in-App-App : goal.alike-returns-in_ok-found-in-App-App
alike-returns-in_ok-found-in-App-App t c =
    λ k. app-parts _ _ _ _ _ _ _ (sym (ap tree c.in-App-App.is-0) ∙ c.as_ref.ensures) (sym (ap tree c.in-App-App.is-1) ∙ c.as_ref-2.ensures)
    (c.in_ok-alike-in-App-App.ensures c.if-not-branch-3.false) (c.in_ok-found-in-App-App.ensures k)

pub alike-returns-in_ok-found-in-Proj-Proj : goal.alike-returns-in_ok-found-in-Proj-Proj
alike-returns-in_ok-found-in-Proj-Proj t c =
    λ k. proj-parts _ _ _ _ _ _ _ _ _ (sym (ap tree c.in-Proj-Proj.is-0) ∙ c.as_ref.ensures) (sym (ap tree c.in-Proj-Proj.is-1) ∙ c.as_ref-2.ensures)
    c.if-ne.ensures c.if-i-j.false (c.in_ok-found-in-Proj-Proj.ensures k)

pub alike-returns-then-nodes-eq1 : goal.alike-returns-then-nodes-eq1
alike-returns-then-nodes-eq1 t c = λ k. same-parts _ _ _ (c.same.ensures.0 k)

pub alike_by_eta-returns : goal.alike_by_eta-returns
alike_by_eta-returns t c = λ k. back (c.in_ok-found.ensures k)

pub has_projections-loop-field-preserved : goal.has_projections-loop-field-preserved
has_projections-loop-field-preserved t c =
    let n : c.loop-field.field ≡ (c.loop-field.field - 1) + 1 = omega (arith, c.loop-field-test.true) in
    let projected : c.in_ok-projected.projected ≡ proj c.args.rec (c.loop-field.field - 1) c.args.of.now =
    c.in_ok-projected.ensures ∙ (λ i. proj c.args.rec (c.in-Ok.ensures.1 i) (c.in_ok-share.ensures i)) in
    λ more. c.loop-field.invariant
    (one-projection _ _ _ _ _ _ _ _ _ n (sym c.as_ref.ensures ∙ ap tree c.in-App.is) projected (c.in_ok-look.ensures c.if-not-branch.false) more)

pub has_projections-returns : goal.has_projections-returns
has_projections-returns t c = λ k. c.loop-field.invariant (no_more (omega (arith, c.loop-field-test.false)))

pub is_eta_form-returns-in-Lam : goal.is_eta_form-returns-in-Lam
is_eta_form-returns-in-Lam t c =
    λ k. function-eta _ _ _ _ _ _ (sym (ap tree c.in-Lam.is) ∙ c.as_ref.ensures)
    (c.in_ok-applied.ensures ∙ (λ i. app (c.in_ok-lift.ensures i) (c.in_ok-new.ensures i)))
    (c.in_ok-found.ensures k)

pub is_eta_form-returns-in_ok-found-in-Some : goal.is_eta_form-returns-in_ok-found-in-Some
is_eta_form-returns-in_ok-found-in-Some t c = λ k. maker-eta _ _ _ _ _ c.in-Some.ensures (c.in_ok-found-in-Some.ensures k)

pub look-loop-round-init : goal.look-loop-round-init
look-loop-round-init t c =
    record { first = same-parts _ _ _ (sym c.in_ok-x.ensures); second = same-parts _ _ _ (sym c.in_ok-y.ensures) }

pub look-returns-then-branch : goal.look-returns-then-branch
look-returns-then-branch t c =
    λ k. by-heads _ _ _ _ _ c.loop-round.invariant.first c.loop-round.invariant.second (c.in_ok-alike.ensures c.if-branch.true)

pub look-returns-in-None : goal.look-returns-in-None
look-returns-in-None t c =
    λ k. by-heads _ _ _ _ _ c.loop-round.invariant.first c.loop-round.invariant.second (c.in_ok-found-in-None.ensures k)

pub look-loop-round-preserved : goal.look-loop-round-preserved
look-loop-round-preserved t c = go-on _ _ _ _ _ _ c.loop-round.invariant (rw c.in-Some.is at c.in_ok-u.ensures)
