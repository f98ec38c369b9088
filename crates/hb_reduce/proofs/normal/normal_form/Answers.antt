use Rattle.std.proofs.Common.{sym, refl, true≢false, arith}
use Rattle.hb_reduce.proofs.ProgressLemmas.{stage-start, stage-large, stage-spent, stage-on, stage-ends, stage-neutral}
use Rattle.hb_reduce.proofs.normal.normal_form.Goals as goal

pub returns-then-passed : goal.returns-then-passed
returns-then-passed c = stage-large _ _ _ _ _ _ _ c.loop-alloc.invariant (c.if-passed.ensures.0 refl)

pub advance-requires : goal.advance-requires
advance-requires c = c.loop-alloc.invariant.clear

pub returns-then-taken-most : goal.returns-then-taken-most
returns-then-taken-most c =
    stage-spent _ _ _ _ _ _ _ _ _ c.loop-alloc.invariant (rw c.in-Step.is at c.in_ok-whole.ensures) c.if-taken-most.true

pub replace-requires : goal.replace-requires
replace-requires c = stage-neutral _ _ _ _ _ (rw c.in-Step.is at c.in_ok-whole.ensures)

pub loop-alloc-smaller : goal.loop-alloc-smaller
loop-alloc-smaller c = let w = c.loop-alloc.invariant.so_far.within in let d = c.if-taken-most.false in omega arith

pub loop-alloc-preserved : goal.loop-alloc-preserved
loop-alloc-preserved c =
    stage-on _ _ _ _ _ _ _ _ _ _ _ _ c.loop-alloc.invariant (λ x. true≢false (sym (c.if-passed.ensures.1 x)))
    (rw c.in-Step.is at c.in_ok-whole.ensures) c.in_ok-now-in-Step.ensures c.if-taken-most.false refl

pub loop-alloc-init : goal.loop-alloc-init
loop-alloc-init c = rw c.new-frames.ensures (stage-start _ _ _)

pub returns-in-Eta : goal.returns-in-Eta
returns-in-Eta c =
    let f = rw c.in-Done.is at c.in_ok-whole.ensures in
    stage-ends _ _ _ _ _ _ _ _ (rw c.in-Eta.is at c.loop-alloc.invariant) (λ x. true≢false (sym (c.if-passed.ensures.1 x)))
    (rw c.in-Eta.is at f)
