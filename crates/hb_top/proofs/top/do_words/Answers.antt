use Rattle.hb_top.specs.Trace.{point}
use Rattle.hb_top.proofs.ReportLemmas.{job_report, usage_report}
use Rattle.hb_top.proofs.TraceLemmas.{some_required}
use Rattle.hb_top.proofs.top.do_words.Goals as goal

pub returns-in-Err-clause-report : goal.returns-in-Err-clause-report
returns-in-Err-clause-report g c = tt

pub returns-in-Ok-None-clause-report : goal.returns-in-Ok-None-clause-report
returns-in-Ok-None-clause-report g c =
    usage_report _ (g.D.Depot.file c.args.depot.now) (point c.args.session.now (g.K.Sink.contents c.args.out.now)) _ _ _ _ c.usage.ensures.ends

pub returns-in-Ok-Some-clause-report : goal.returns-in-Ok-Some-clause-report
returns-in-Ok-Some-clause-report g c =
    job_report _ c.in-Ok-Some.job (g.D.Depot.file c.args.depot.now) (point c.args.session.now (g.K.Sink.contents c.args.out.now)) _ _ _
    (some_required c.in-Ok-Some.field-0 c.in-Ok-Some.job _ c.in-Ok-Some.field-0-is c.in-Ok-Some.ensures.asked) c.do_job.ensures.report
