use Rattle.std.proofs.Common.{sym, refl, true≢false, arith}
use Rattle.hb_reduce.proofs.ProgressLemmas.{head-large, head-spent, head-ends, head-on, head-neutral}
use Rattle.hb_reduce.proofs.head.head_form.Goals as goal

pub returns-then-passed : goal.returns-then-passed
returns-then-passed c = head-large _ _ _ _ _ _ c.loop-alloc.invariant (c.if-passed.ensures.0 refl)

pub advance_head-requires-clause-clear : goal.advance_head-requires-clause-clear
advance_head-requires-clause-clear c = c.loop-alloc.invariant.clear

pub advance_head-requires-clause-path : goal.advance_head-requires-clause-path
advance_head-requires-clause-path c = c.loop-alloc.invariant.path

pub returns-in-Done : goal.returns-in-Done
returns-in-Done c =
    head-ends _ _ _ _ _ _ _ c.loop-alloc.invariant (λ x. true≢false (sym (c.if-passed.ensures.1 x)))
    (rw c.in-Done.is at c.in_ok-whole.ensures)

pub returns-then-taken-most : goal.returns-then-taken-most
returns-then-taken-most c =
    head-spent _ _ _ _ _ _ _ _ c.loop-alloc.invariant (rw c.in-Step.is at c.in_ok-whole.ensures) c.if-taken-most.true

pub settle-requires : goal.settle-requires
settle-requires c = head-neutral _ _ _ _ (rw c.in-Step.is at c.in_ok-whole.ensures)

pub loop-alloc-smaller : goal.loop-alloc-smaller
loop-alloc-smaller c = let w = c.loop-alloc.invariant.so_far.within in let d = c.if-taken-most.false in omega arith

pub loop-alloc-preserved : goal.loop-alloc-preserved
loop-alloc-preserved c =
    let f = rw c.in-Step.is at c.in_ok-whole.ensures in
    head-on _ _ _ _ _ _ _ _ _ _ _ c.loop-alloc.invariant (λ x. true≢false (sym (c.if-passed.ensures.1 x))) f
    c.in_ok-now-in-Step.ensures.at (c.in_ok-now-in-Step.ensures.path f.path) c.if-taken-most.false refl
