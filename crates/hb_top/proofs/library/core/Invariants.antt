use Rattle.std.proofs.Common.{[], ◌≡◌, length, map}
use Rattle.std.specs.Vec.Iter.{into_iter_items, into_iter_len}
use Rattle.hb_env.specs.Plain.{plain}
use Rattle.hb_top.proofs.Kept.{Kept}
use Rattle.hb_top.specs.Agenda.{declarations_then}
use Rattle.hb_top.specs.Trace.{point}
use Rattle.hb_top.proofs.library.core.Given as goal

abbrev pub invariant-decls : goal.invariant-decls
invariant-decls g l =
    (length (into_iter_items l.decl-iterator) ≡ into_iter_len l.decl-iterator)
    × Kept l.settings.aloud (declarations_then (map (λ d. plain d.0) (into_iter_items l.initial.decl-iterator)) []) (declarations_then (map (λ d. plain d.0) (into_iter_items l.decl-iterator)) []) (point l.initial.session (g.K.Sink.contents l.initial.out)) (point l.session (g.K.Sink.contents l.out)) (g.D.Depot.faults l.initial.depot) (g.D.Depot.faults l.depot) (g.K.Sink.faults l.initial.out) (g.K.Sink.faults l.out) (g.D.Depot.file l.initial.depot) (g.D.Depot.file l.depot)
