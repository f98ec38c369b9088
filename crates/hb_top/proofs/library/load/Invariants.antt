use Rattle.std.proofs.Common.{[], ◌∷◌, ◌≡◌, length, map}
use Rattle.std.specs.Vec.Iter.{into_iter_items, into_iter_len}
use Rattle.hb_top.proofs.Kept.{Kept}
use Rattle.hb_top.specs.Agenda.{entries_then, library}
use Rattle.hb_top.specs.Trace.{point}
use Rattle.hb_top.proofs.library.load.Given as goal

abbrev pub invariant-entries : goal.invariant-entries
invariant-entries g l =
    (length (into_iter_items l.entry-iterator) ≡ into_iter_len l.entry-iterator)
    × Kept l.settings.aloud (entries_then (map (λ e. e.0) (into_iter_items l.initial.entry-iterator)) (library l.name l.count ∷ [])) (entries_then (map (λ e. e.0) (into_iter_items l.entry-iterator)) (library l.name l.count ∷ [])) (point l.initial.session (g.K.Sink.contents l.initial.out)) (point l.session (g.K.Sink.contents l.out)) (g.D.Depot.faults l.initial.depot) (g.D.Depot.faults l.depot) (g.K.Sink.faults l.initial.out) (g.K.Sink.faults l.out) (g.D.Depot.file l.initial.depot) (g.D.Depot.file l.depot)
