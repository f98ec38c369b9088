use Rattle.std.proofs.Common.{◌-◌}
use Rattle.hb_term.specs.Meaning.{tree}
use Rattle.hb_calculus.specs.Budget.{budget}
use Rattle.hb_calculus.specs.Sequence.{move, term_at, stepping}
use Rattle.hb_reduce.specs.Progress.{SoFar}
use Rattle.plain_reduction.specs.Plain.{stage}
use Rattle.plain_reduction.proofs.reduce.nf.Given as goal

abbrev pub invariant-loop-alloc : goal.invariant-loop-alloc
invariant-loop-alloc l =
    SoFar (move l.fn.env) term_at (budget l.fn.limits) (stepping (tree l.fn.t.term)) l.taken (stage l.phase l.now)

abbrev pub decreases-loop-alloc : goal.decreases-loop-alloc
decreases-loop-alloc l = l.most - l.taken
