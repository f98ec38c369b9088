use Rattle.std.proofs.Common.{ℕ, ◌-◌, ◌+◌, ◌*◌}
use Rattle.hb_calculus.specs.Budget.{budget}
use Rattle.hb_reduce.specs.declared.rule.Rule.{Rule}
use Rattle.hb_reduce.specs.declared.rule.Rule.TheVariants.{Step, Eta}
use Rattle.hb_reduce.specs.Progress.{AtStage}
use Rattle.hb_reduce.proofs.normal.normal_form.Given as goal

-- the phases that are left
abbrev pub left : Rule → ℕ
left Step = 1
left Eta = 0

abbrev pub invariant-loop-alloc : goal.invariant-loop-alloc
invariant-loop-alloc l = AtStage l.fn.env (budget l.fn.limits) l.fn.part l.rule l.frames l.now l.taken

abbrev pub decreases-loop-alloc : goal.decreases-loop-alloc
decreases-loop-alloc l = 2 * (l.most - l.taken) + left l.rule
