use Rattle.std.proofs.Common.{◌∙◌, sym, subst}
use Rattle.hb_reduce.specs.Kinds.{IsHeadPath}
use Rattle.hb_reduce.proofs.ProgressLemmas.{at-down, head-done, smaller-down}
use Rattle.hb_reduce.proofs.head.advance_head.Goals as goal

pub loop-now-smaller : goal.loop-now-smaller
loop-now-smaller c = let h = rw c.in-Some-2.is at c.in_ok-side.ensures in smaller-down _ _ _ h.0

pub loop-now-preserved : goal.loop-now-preserved
loop-now-preserved c =
    let h = rw c.in-Some-2.is at c.in_ok-side.ensures in
    let i = c.loop-now.invariant in
    let p = c.in_ok-push-in-Some-2.ensures in (
      at-down _ _ _ _ _ _ _ i.0 (sym c.in_ok-made.ensures ∙ c.in_default.is) h.0 h.1 p,
      subst (λ xs. IsHeadPath xs) (sym p) (h.1, i.1),
    )

pub returns-in-None : goal.returns-in-None
returns-in-None c =
    let h = rw c.in-None.is at c.in_ok-side.ensures in
    let i = c.loop-now.invariant in
    head-done _ _ _ _ _ i.0 i.1 (sym c.in_ok-made.ensures ∙ c.in_default.is) (h c.args.env.now) c.in_ok-close-in-None.ensures.whole
