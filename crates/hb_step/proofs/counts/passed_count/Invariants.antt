use Rattle.hb_step.proofs.CountLemmas.{Counted}
use Rattle.hb_step.proofs.counts.passed_count.Given as goal

abbrev pub invariant-loop-decl : goal.invariant-loop-decl
invariant-loop-decl l = Counted l.env l.decls l.decl-index l.declared l.nodes
