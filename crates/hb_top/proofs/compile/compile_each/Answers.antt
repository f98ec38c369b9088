use Rattle.std.proofs.Common.{refl, arith, ◌∙◌, ◌+◌, [], ◌∷◌, map, drop, string_bytes}
use Rattle.hb_top.specs.Agenda.{file, files_then}
use Rattle.hb_top.specs.Trace.{point, start}
use Rattle.hb_top.proofs.TraceLemmas.{goes_before, halts_before, next_file, then_same_goes, then_same_halts}
use Rattle.hb_top.proofs.compile.compile_each.Goals as goal

pub files-init : goal.files-init
files-init g c = record { depot_later = omega arith; sink_later = omega arith; files = λ n. refl; went = λ aloud. start }

pub returns-in-Err-clause-went : goal.returns-in-Err-clause-went
returns-in-Err-clause-went g c = λ aloud.
    then_same_halts (g.D.Depot.file c.args.depot.now) (g.D.Depot.file c.files.depot) _ _ (point c.args.session.now (g.K.Sink.contents c.args.out.now)) (point c.files.session (g.K.Sink.contents c.files.out)) (point c.compile_file.new.session (g.K.Sink.contents c.compile_file.new.out)) c.in-Err.stop
    c.files.invariant.files (c.files.invariant.went aloud)
    (rw (next_file string_bytes c.args.names.now c.files.name-index c.name-item.result c.as_str.result.now c.files-test.true c.name-item.is c.as_str.ensures.value)
    (halts_before (g.D.Depot.file c.files.depot) (file c.as_str.result.now ∷ []) (files_then (map string_bytes (drop (c.files.name-index + 1) c.args.names.now)) []) _ _ c.in-Err.stop (c.in-Err.ensures.went aloud)))

pub files-preserved : goal.files-preserved
files-preserved g c = record {
  depot_later = omega (arith, c.files.invariant.depot_later, c.in-Ok.ensures.depot_later);
  sink_later = omega (arith, c.files.invariant.sink_later, c.in-Ok.ensures.sink_later);
  files = λ n. c.in-Ok.ensures.files n ∙ c.files.invariant.files n;
  went = λ aloud.
      then_same_goes (g.D.Depot.file c.args.depot.now) (g.D.Depot.file c.files.depot) _ _ _ (point c.args.session.now (g.K.Sink.contents c.args.out.now)) (point c.files.session (g.K.Sink.contents c.files.out)) (point c.compile_file.new.session (g.K.Sink.contents c.compile_file.new.out))
      c.files.invariant.files (c.files.invariant.went aloud)
      (rw (next_file string_bytes c.args.names.now c.files.name-index c.name-item.result c.as_str.result.now c.files-test.true c.name-item.is c.as_str.ensures.value)
      (goes_before (g.D.Depot.file c.files.depot) (file c.as_str.result.now ∷ []) (files_then (map string_bytes (drop (c.files.name-index + 1) c.args.names.now)) []) _ [] _ (c.in-Ok.ensures.went aloud)));
}
