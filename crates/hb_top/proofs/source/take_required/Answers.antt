use Rattle.std.proofs.Common.{refl}
use Rattle.hb_top.specs.Trace.{point}
use Rattle.hb_top.proofs.TraceLemmas.{required_ends}
use Rattle.hb_top.proofs.source.take_required.Goals as goal

pub returns-in-Ok-clause-went : goal.returns-in-Ok-clause-went
returns-in-Ok-clause-went g c = λ aloud F.
    required_ends F _ (point c.args.session.now (g.K.Sink.contents c.args.out.now)) (point c.take_require.new.self (g.K.Sink.contents c.args.out.now)) (point c.report.new.session (g.K.Sink.contents c.report.new.out)) c.args.name c.in-Ok.event c.report.result
    c.in-Ok.ensures.taken
    (record { lines = c.in-Ok.ensures.lines; out = refl })
    c.report.ensures.keeps
    (c.report.ensures.told aloud)
    c.report.ensures.cut
