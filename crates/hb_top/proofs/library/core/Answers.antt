use Rattle.std.proofs.Common.{refl, rules, arith, length, sym, ap, ◌∙◌, [], ◌∷◌, map}
use Rattle.std.proofs.lemmas.List.{nil_from_length}
use Rattle.std.specs.Vec.Iter.{into_iter_items}
use Rattle.hb_env.specs.Plain.{plain}
use Rattle.hb_top.specs.Agenda.{declaration, declarations_then}
use Rattle.hb_top.specs.Trace.{point, start}
use Rattle.hb_top.proofs.TraceLemmas.{added_told, goes_on, next_declaration, no_declaration, opened_core, refused_there, same_goes, then_halts}
use Rattle.hb_top.proofs.library.core.Goals as goal

pub decls-init : goal.decls-init
decls-init g c = (
  ap length c.into_iter-decl-iterator.ensures.into_iter_gives.0 ∙ search rules ∙ sym c.into_iter-decl-iterator.ensures.into_iter_gives.1,
  record { depot_later = omega arith; sink_later = omega arith; files = λ n. refl; went = λ aloud. start },
)

pub decls-preserved : goal.decls-preserved
decls-preserved g c = (
  omega (arith, c.decls.invariant.0, ap length c.in-Some.ensures.steps.0, c.in-Some.ensures.steps.1),
  record {
    depot_later = c.decls.invariant.1.depot_later;
    sink_later = omega (arith, c.decls.invariant.1.sink_later, c.tell.ensures.sink_later);
    files = c.decls.invariant.1.files;
    went = λ aloud.
        goes_on (g.D.Depot.file c.read.new.depot) _ _ _ (point c.decls.session (g.K.Sink.contents c.decls.out)) _ (point c.tell.new.session (g.K.Sink.contents c.tell.new.out)) (c.decls.invariant.1.went aloud)
        (rw (next_declaration (λ d. plain d.0) (into_iter_items c.decls.decl-iterator) (into_iter_items c.next.new.self) (c.in-Some.decl, c.in-Some.span) [] c.in-Some.ensures.steps.0)
        (added_told (g.D.Depot.file c.read.new.depot) (declarations_then (map (λ d. plain d.0) (into_iter_items c.next.new.self)) []) (point c.decls.session (g.K.Sink.contents c.decls.out)) (point c.replay.new.self (g.K.Sink.contents c.decls.out)) (point c.tell.new.session (g.K.Sink.contents c.tell.new.out)) (plain c.in-Some.decl) c.in_ok-entry.entry c.declared_by-declared.result
        c.in_ok-entry.ensures c.declared_by-declared.ensures c.in-Ok-replay.ensures.taken c.in-Ok-replay.ensures.grows c.in-Ok-replay.ensures.leaves (record { lines = c.in-Ok-replay.ensures.lines; out = refl }) c.tell.ensures.keeps (c.in-Ok-tell.ensures.told aloud)));
  },
)

pub returns-in-Err-replay-clause-went : goal.returns-in-Err-replay-clause-went
returns-in-Err-replay-clause-went g c = λ aloud.
    then_halts (g.D.Depot.file c.args.depot.now) _ _ (point c.args.session.now (g.K.Sink.contents c.args.out.now)) (point c.decls.session (g.K.Sink.contents c.decls.out)) (point c.replay.new.self (g.K.Sink.contents c.decls.out)) c.of_refusal-in-Err-replay.result
    (goes_on (g.D.Depot.file c.args.depot.now) _ _ _ _ _ _
    (opened_core (g.D.Depot.file c.args.depot.now) [] (point c.args.session.now (g.K.Sink.contents c.args.out.now)) (point c.core_text.new.self (g.K.Sink.contents c.args.out.now)) c.args.name.now c.as_slice.result.now (map (λ d. plain d.0) (into_iter_items c.into_iter-decl-iterator.result))
    (rw c.as_slice.ensures.value c.in-Ok.ensures.told) c.core_text.ensures.only_names (record { lines = c.core_text.ensures.lines ∙ c.begin.ensures.lines; out = refl }))
    (same_goes (g.D.Depot.file c.args.depot.now) (g.D.Depot.file c.read.new.depot) _ _ _ _ c.read.ensures.files (c.decls.invariant.1.went aloud)))
    (rw (next_declaration (λ d. plain d.0) (into_iter_items c.decls.decl-iterator) (into_iter_items c.next.new.self) (c.in-Some.decl, c.in-Some.span) [] c.in-Some.ensures.steps.0)
    (refused_there (g.D.Depot.file c.args.depot.now) (declaration (plain c.in-Some.decl) ∷ declarations_then (map (λ d. plain d.0) (into_iter_items c.next.new.self)) []) (point c.decls.session (g.K.Sink.contents c.decls.out)) (point c.replay.new.self (g.K.Sink.contents c.decls.out)) c.of_refusal-in-Err-replay.result tt
    c.in-Err-replay.ensures.refused (record { lines = c.in-Err-replay.ensures.lines; out = refl })))

pub returns-clause-went : goal.returns-clause-went
returns-clause-went g c = λ aloud.
    goes_on (g.D.Depot.file c.args.depot.now) _ _ _ _ _ _
    (opened_core (g.D.Depot.file c.args.depot.now) [] (point c.args.session.now (g.K.Sink.contents c.args.out.now)) (point c.core_text.new.self (g.K.Sink.contents c.args.out.now)) c.args.name.now c.as_slice.result.now (map (λ d. plain d.0) (into_iter_items c.into_iter-decl-iterator.result))
    (rw c.as_slice.ensures.value c.in-Ok.ensures.told) c.core_text.ensures.only_names (record { lines = c.core_text.ensures.lines ∙ c.begin.ensures.lines; out = refl }))
    (rw (no_declaration (λ d. plain d.0) (into_iter_items c.decls.decl-iterator) [] (nil_from_length _ (c.decls.invariant.0 ∙ c.in-None.ensures.steps.0))) at
    (same_goes (g.D.Depot.file c.args.depot.now) (g.D.Depot.file c.read.new.depot) _ _ _ _ c.read.ensures.files (c.decls.invariant.1.went aloud)))
