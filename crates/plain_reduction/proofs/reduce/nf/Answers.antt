use Rattle.std.proofs.Common.{◌≡◌, ◌∙◌, sym, ap, true≢false}
use Rattle.std.specs.Prelude.{None}
use Rattle.hb_term.specs.Meaning.{tree}
use Rattle.hb_calculus.specs.Sequence.{move}
use Rattle.hb_reduce.proofs.ScopeLemmas.{normal-scope}
use Rattle.plain_reduction.specs.Plain.{stage}
use Rattle.plain_reduction.proofs.StageLemmas.{stage-ends, normal-of}
use Rattle.plain_reduction.proofs.reduce.nf.Goals as goal

pub scoped-requires-in-None : goal.scoped-requires-in-None
scoped-requires-in-None c =
    let none : None ≡ move c.args.env.now (stage c.loop-alloc.phase c.loop-alloc.now) = rw c.in-None.is at c.in_ok-next_stage.ensures in
    normal-scope _ c.definitions_are_closed.ensures _ _ _ _ _ _ _
    (stage-ends _ _ _ _ _ _ c.loop-alloc.invariant (λ x. true≢false (sym (c.if-too_large.ensures.1 x))) (sym none))
    (ap tree (sym c.term.ensures.value)) c.term.ensures.in_scope c.depth-in-None.ensures c.as_ref.ensures

pub returns-in-None : goal.returns-in-None
returns-in-None c =
    let none : None ≡ move c.args.env.now (stage c.loop-alloc.phase c.loop-alloc.now) = rw c.in-None.is at c.in_ok-next_stage.ensures in
    normal-of _ _ _ _ _ (ap tree c.in_ok-scoped-in-None.ensures.0 ∙ c.as_ref.ensures) (c.in_ok-scoped-in-None.ensures.1 ∙ c.depth-in-None.ensures)
    (stage-ends _ _ _ _ _ _ c.loop-alloc.invariant (λ x. true≢false (sym (c.if-too_large.ensures.1 x))) (sym none))
