use Prim.{search}
use Rattle.std.proofs.Common.{rules, sym, arith, true≢false, ap, ◌∙◌}
use Rattle.hb_session.specs.State.{state}
use Rattle.hb_words.specs.Jobs.{word_of}
use Rattle.hb_top.specs.Agenda.{agenda_of}
use Rattle.hb_top.specs.Reported.{asked_by}
use Rattle.hb_top.specs.Trace.{point}
use Rattle.hb_top.proofs.ReportLemmas.{compared, is_fault, worked, works_done, works_stopped}
use Rattle.hb_top.proofs.top.work_and_tell.Goals as goal

pub returns-in-Refactor-clause-report : goal.returns-in-Refactor-clause-report
returns-in-Refactor-clause-report g c =
    compared c.args.job.now _ _ _ _ (g.D.Depot.file c.args.depot.now) (agenda_of c.args.job.now) (point c.args.session.now (g.K.Sink.contents c.args.out.now)) _ _ _ c.in-Refactor.is

pub returns-in-Ok : goal.returns-in-Ok
returns-in-Ok g c = record {
  sink_later = c.work-ended.ensures.sink_later;
  source_fault = λ is. absurd (true≢false (ap is_fault (sym is)));
  sink_fault = λ is. absurd (true≢false (ap is_fault (sym is)));
  told = tt;
  files = c.work-ended.ensures.files;
  sources = c.work-ended.ensures.sources;
  report = works_done (asked_by (word_of c.args.job.now)) (g.D.Depot.file c.args.depot.now) (agenda_of c.args.job.now) (point c.args.session.now (g.K.Sink.contents c.args.out.now)) (point c.work-ended.new.session (g.K.Sink.contents c.work-ended.new.out))
      (worked c.args.job.now (g.D.Depot.file c.args.depot.now) (agenda_of c.args.job.now) (point c.args.session.now (g.K.Sink.contents c.args.out.now)) (point c.work-ended.new.session (g.K.Sink.contents c.work-ended.new.out)) _
      (λ t. c.in-Ok.ensures.report (c.settings_of-settings.ensures ∙ t)));
}

pub returns-in-Err : goal.returns-in-Err
returns-in-Err g c = record {
  sink_later = omega (arith, c.work-ended.ensures.sink_later, c.stopped.ensures.later);
  source_fault = λ is. c.in-Err.ensures.source (c.stopped.ensures.source is);
  sink_fault = search rules;
  told = c.stopped.ensures.told;
  files = c.work-ended.ensures.files;
  sources = c.work-ended.ensures.sources;
  report = works_stopped (asked_by (word_of c.args.job.now)) (g.D.Depot.file c.args.depot.now) (agenda_of c.args.job.now) (point c.args.session.now (g.K.Sink.contents c.args.out.now)) (point c.work-ended.new.session (g.K.Sink.contents c.work-ended.new.out))
      (state c.stopped.new.session) c.in-Err.stop (g.K.Sink.contents c.stopped.new.out) c.stopped.result c.stopped.ensures.early
      (worked c.args.job.now (g.D.Depot.file c.args.depot.now) (agenda_of c.args.job.now) (point c.args.session.now (g.K.Sink.contents c.args.out.now)) (point c.work-ended.new.session (g.K.Sink.contents c.work-ended.new.out)) _
      (λ t. c.in-Err.ensures.report (c.settings_of-settings.ensures ∙ t)))
      (sym c.stopped.ensures.keeps) c.stopped.ensures.cause;
}
