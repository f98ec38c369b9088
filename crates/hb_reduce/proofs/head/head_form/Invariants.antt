use Rattle.std.proofs.Common.{◌-◌}
use Rattle.hb_calculus.specs.Budget.{budget}
use Rattle.hb_reduce.specs.Progress.{AtHead}
use Rattle.hb_reduce.proofs.head.head_form.Given as goal

abbrev pub invariant-loop-alloc : goal.invariant-loop-alloc
invariant-loop-alloc l = AtHead l.fn.env (budget l.fn.limits) l.fn.part l.frames l.now l.taken

abbrev pub decreases-loop-alloc : goal.decreases-loop-alloc
decreases-loop-alloc l = l.most - l.taken
