use Rattle.hb_session.specs.State.{state}
use Rattle.hb_words.specs.Jobs.{word_of}
use Rattle.hb_top.specs.Agenda.{agenda_of}
use Rattle.hb_top.specs.Reported.{asked_by}
use Rattle.hb_top.specs.Trace.{point}
use Rattle.hb_top.proofs.ReportLemmas.{report_end}
use Rattle.hb_top.proofs.top.do_job.Goals as goal

pub returns-clause-report : goal.returns-clause-report
returns-clause-report g c =
    report_end (asked_by (word_of c.args.job.now)) (g.D.Depot.file c.args.depot.now) (agenda_of c.args.job.now) (point c.args.session.now (g.K.Sink.contents c.args.out.now)) (state c.work_and_tell-status.new.session) c.work_and_tell-status.result _
    (g.K.Sink.contents c.work_and_tell-status.new.out) _ c.work_and_tell-status.ensures.report c.finish_all.ensures.ends
