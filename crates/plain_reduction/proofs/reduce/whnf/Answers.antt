use Rattle.std.proofs.Common.{◌≡◌, ◌∙◌, sym, refl, ap, true≢false}
use Rattle.std.specs.Prelude.{Some, None}
use Rattle.hb_term.specs.Meaning.{tree}
use Rattle.hb_calculus.specs.Contraction.{head_step}
use Rattle.hb_reduce.proofs.ScopeLemmas.{head-scope}
use Rattle.hb_reduce.proofs.ProgressLemmas.{so-on}
use Rattle.plain_reduction.proofs.StageLemmas.{head-ends, head-of}
use Rattle.plain_reduction.proofs.reduce.whnf.Goals as goal

pub scoped-requires-in-None : goal.scoped-requires-in-None
scoped-requires-in-None c =
    let none : None ≡ head_step c.args.env.now c.loop-alloc.now = rw c.in-None.is at c.in_ok-head_step.ensures in
    head-scope _ c.definitions_are_closed.ensures _ _ _ _ _ _ _
    (head-ends _ _ _ _ _ c.loop-alloc.invariant (λ x. true≢false (sym (c.if-too_large.ensures.1 x))) (sym none))
    (ap tree (sym c.term.ensures.value)) c.term.ensures.in_scope c.depth-in-None.ensures c.as_ref.ensures

pub returns-in-None : goal.returns-in-None
returns-in-None c =
    let none : None ≡ head_step c.args.env.now c.loop-alloc.now = rw c.in-None.is at c.in_ok-head_step.ensures in
    head-of _ _ _ _ _ (ap tree c.in_ok-scoped-in-None.ensures.0 ∙ c.as_ref.ensures) (c.in_ok-scoped-in-None.ensures.1 ∙ c.depth-in-None.ensures)
    (head-ends _ _ _ _ _ c.loop-alloc.invariant (λ x. true≢false (sym (c.if-too_large.ensures.1 x))) (sym none))

pub loop-alloc-preserved : goal.loop-alloc-preserved
loop-alloc-preserved c =
    let some : Some c.in-Some.next ≡ head_step c.args.env.now c.loop-alloc.now = rw c.in-Some.is at c.in_ok-head_step.ensures in
    so-on _ _ _ _ _ _ _ _ c.loop-alloc.invariant (λ x. true≢false (sym (c.if-too_large.ensures.1 x))) (sym some) c.if-taken-most.false refl
