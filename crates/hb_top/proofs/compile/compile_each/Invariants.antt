use Rattle.std.proofs.Common.{[], drop, map, string_bytes}
use Rattle.hb_top.proofs.Kept.{Kept}
use Rattle.hb_top.specs.Agenda.{files_then}
use Rattle.hb_top.specs.Trace.{point}
use Rattle.hb_top.proofs.compile.compile_each.Given as goal

abbrev pub invariant-files : goal.invariant-files
invariant-files g l =
    Kept l.settings.aloud (files_then (map string_bytes l.names) []) (files_then (map string_bytes (drop l.name-index l.names)) []) (point l.initial.session (g.K.Sink.contents l.initial.out)) (point l.session (g.K.Sink.contents l.out)) (g.D.Depot.faults l.initial.depot) (g.D.Depot.faults l.depot) (g.K.Sink.faults l.initial.out) (g.K.Sink.faults l.out) (g.D.Depot.file l.initial.depot) (g.D.Depot.file l.depot)
