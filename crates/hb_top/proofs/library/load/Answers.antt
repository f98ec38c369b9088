use Rattle.std.proofs.Common.{refl, rules, arith, length, sym, ap, ◌∙◌, [], ◌∷◌, map}
use Rattle.std.proofs.lemmas.List.{length-map, nil_from_length}
use Rattle.std.specs.Vec.Iter.{into_iter_items}
use Rattle.hb_top.specs.Agenda.{entry, entries_then, library}
use Rattle.hb_top.specs.Trace.{point, start}
use Rattle.hb_top.proofs.TraceLemmas.{goes_before, goes_on, halts_before, library_ends, next_entry, no_entry, opened_library, same_goes, then_halts}
use Rattle.hb_top.proofs.library.load.Goals as goal

pub entries-preserved : goal.entries-preserved
entries-preserved g c = (
  omega (arith, c.entries.invariant.0, ap length c.in-Some.ensures.steps.0, c.in-Some.ensures.steps.1),
  record {
    depot_later = c.entries.invariant.1.depot_later;
    sink_later = c.entries.invariant.1.sink_later;
    files = c.entries.invariant.1.files;
    went = λ aloud.
        goes_on (g.D.Depot.file c.read.new.depot) _ _ _ (point c.entries.session (g.K.Sink.contents c.args.out.now)) _ (point c.load_entry.new.session (g.K.Sink.contents c.args.out.now)) (c.entries.invariant.1.went aloud)
        (rw (next_entry (λ e. e.0) (into_iter_items c.entries.entry-iterator) (into_iter_items c.next.new.self) (c.in-Some.entry, c.in-Some.places) (library c.args.name.now c.len-count.result ∷ []) c.in-Some.ensures.steps.0)
        (goes_before (g.D.Depot.file c.read.new.depot) (entry c.in-Some.entry ∷ []) (entries_then (map (λ e. e.0) (into_iter_items c.next.new.self)) (library c.args.name.now c.len-count.result ∷ [])) _ [] _
        (c.in-Ok-load_entry.ensures.went (g.D.Depot.file c.read.new.depot) (g.K.Sink.contents c.args.out.now))));
  },
)

pub entries-init : goal.entries-init
entries-init g c = (
  ap length c.into_iter-entry-iterator.ensures.into_iter_gives.0 ∙ search rules ∙ sym c.into_iter-entry-iterator.ensures.into_iter_gives.1,
  record { depot_later = omega arith; sink_later = omega arith; files = λ n. refl; went = λ aloud. start },
)

pub returns-in-Err-load_entry-clause-went : goal.returns-in-Err-load_entry-clause-went
returns-in-Err-load_entry-clause-went g c = λ aloud l.
    then_halts (g.D.Depot.file c.args.depot.now) _ _ (point c.args.session.now (g.K.Sink.contents c.args.out.now)) (point c.entries.session (g.K.Sink.contents c.args.out.now)) _ c.in-Err-load_entry.stop
    (goes_on (g.D.Depot.file c.args.depot.now) _ _ _ _ _ _
    (opened_library (g.D.Depot.file c.args.depot.now) [] (point c.args.session.now (g.K.Sink.contents c.args.out.now)) (point c.library.new.self (g.K.Sink.contents c.args.out.now)) c.args.name.now c.as_slice.result.now (map (λ e. e.0) (into_iter_items c.into_iter-entry-iterator.result)) c.len-count.result
    l (rw c.as_slice.ensures.value c.in-Ok.ensures.told) c.library.ensures.only_names (record { lines = c.library.ensures.lines ∙ c.begin.ensures.lines; out = refl })
    (rw c.into_iter-entry-iterator.ensures.into_iter_gives.0 c.in-Ok-library.ensures.read)
    (c.len-count.ensures ∙ sym (search rules) ∙ sym (ap length c.into_iter-entry-iterator.ensures.into_iter_gives.0) ∙ sym (length-map (into_iter_items c.into_iter-entry-iterator.result) (λ e. e.0))))
    (same_goes (g.D.Depot.file c.args.depot.now) (g.D.Depot.file c.read.new.depot) _ _ _ _ c.read.ensures.files (c.entries.invariant.1.went aloud)))
    (rw (next_entry (λ e. e.0) (into_iter_items c.entries.entry-iterator) (into_iter_items c.next.new.self) (c.in-Some.entry, c.in-Some.places) (library c.args.name.now c.len-count.result ∷ []) c.in-Some.ensures.steps.0)
    (halts_before (g.D.Depot.file c.args.depot.now) (entry c.in-Some.entry ∷ []) (entries_then (map (λ e. e.0) (into_iter_items c.next.new.self)) (library c.args.name.now c.len-count.result ∷ [])) _ _ c.in-Err-load_entry.stop
    (c.in-Err-load_entry.ensures.went (g.D.Depot.file c.args.depot.now) (g.K.Sink.contents c.args.out.now))))

pub returns-clause-went : goal.returns-clause-went
returns-clause-went g c = λ aloud l.
    library_ends (g.D.Depot.file c.args.depot.now) _ [] (point c.args.session.now (g.K.Sink.contents c.args.out.now)) (point c.entries.session (g.K.Sink.contents c.args.out.now)) (point c.tell_library.new.session (g.K.Sink.contents c.tell_library.new.out)) c.args.name.now c.len-count.result c.tell_library.result
    (goes_on (g.D.Depot.file c.args.depot.now) _ _ _ _ _ _
    (opened_library (g.D.Depot.file c.args.depot.now) [] (point c.args.session.now (g.K.Sink.contents c.args.out.now)) (point c.library.new.self (g.K.Sink.contents c.args.out.now)) c.args.name.now c.as_slice.result.now (map (λ e. e.0) (into_iter_items c.into_iter-entry-iterator.result)) c.len-count.result
    l (rw c.as_slice.ensures.value c.in-Ok.ensures.told) c.library.ensures.only_names (record { lines = c.library.ensures.lines ∙ c.begin.ensures.lines; out = refl })
    (rw c.into_iter-entry-iterator.ensures.into_iter_gives.0 c.in-Ok-library.ensures.read)
    (c.len-count.ensures ∙ sym (search rules) ∙ sym (ap length c.into_iter-entry-iterator.ensures.into_iter_gives.0) ∙ sym (length-map (into_iter_items c.into_iter-entry-iterator.result) (λ e. e.0))))
    (rw (no_entry (λ e. e.0) (into_iter_items c.entries.entry-iterator) (library c.args.name.now c.len-count.result ∷ []) (nil_from_length _ (c.entries.invariant.0 ∙ c.in-None.ensures.steps.0))) at
    (same_goes (g.D.Depot.file c.args.depot.now) (g.D.Depot.file c.read.new.depot) _ _ _ _ c.read.ensures.files (c.entries.invariant.1.went aloud)))) c.tell_library.ensures.keeps (c.tell_library.ensures.told aloud) c.tell_library.ensures.cut
