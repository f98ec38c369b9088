use Rattle.std.proofs.Common.{◌≡◌, length}
use Rattle.hb_calculus.specs.Budget.{budget}
use Rattle.hb_step.proofs.AddLemmas.{Added}
use Rattle.hb_step.proofs.adding.add_all.Given as goal

abbrev pub invariant-loop-decl : goal.invariant-loop-decl
invariant-loop-decl l =
    Added (budget l.limits) l.fn.theory l.theory l.decls l.decl-index × (l.before ≡ length l.fn.theory)
