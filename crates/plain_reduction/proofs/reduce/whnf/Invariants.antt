use Rattle.std.proofs.Common.{◌-◌}
use Rattle.hb_term.specs.Meaning.{tree}
use Rattle.hb_calculus.specs.Budget.{budget}
use Rattle.hb_calculus.specs.Contraction.{head_step}
use Rattle.hb_reduce.specs.Progress.{SoFar}
use Rattle.plain_reduction.proofs.reduce.whnf.Given as goal

abbrev pub invariant-loop-alloc : goal.invariant-loop-alloc
invariant-loop-alloc l = SoFar (head_step l.fn.env) (λ x. x) (budget l.fn.limits) (tree l.fn.t.term) l.taken l.now

abbrev pub decreases-loop-alloc : goal.decreases-loop-alloc
decreases-loop-alloc l = l.most - l.taken
