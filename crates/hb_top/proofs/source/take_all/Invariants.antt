use Rattle.std.proofs.Common.{[]}
use Rattle.hb_top.proofs.Kept.{Kept}
use Rattle.hb_top.specs.Stack.{stack_then}
use Rattle.hb_top.specs.Trace.{point}
use Rattle.hb_top.proofs.source.take_all.Given as goal

abbrev pub invariant-turns : goal.invariant-turns
invariant-turns g l =
    Kept l.settings.aloud (stack_then l.initial.stack.items []) (stack_then l.stack.items []) (point l.initial.session (g.K.Sink.contents l.initial.out)) (point l.session (g.K.Sink.contents l.out)) (g.D.Depot.faults l.initial.depot) (g.D.Depot.faults l.depot) (g.K.Sink.faults l.initial.out) (g.K.Sink.faults l.out) (g.D.Depot.file l.initial.depot) (g.D.Depot.file l.depot)
