use Rattle.std.proofs.Common.{refl, ◌∙◌}
use Rattle.hb_raw.specs.Views.{act}
use Rattle.hb_top.specs.Trace.{point}
use Rattle.hb_top.proofs.TraceLemmas.{taken_ends}
use Rattle.hb_top.proofs.source.take.Goals as goal

pub returns-in_ok-note_declared-in-Ok-clause-went : goal.returns-in_ok-note_declared-in-Ok-clause-went
returns-in_ok-note_declared-in-Ok-clause-went g c = λ aloud F.
    taken_ends F _ (point c.args.session.now (g.K.Sink.contents c.args.out.now)) (point c.note_declared.new.session (g.K.Sink.contents c.args.out.now)) (point c.report.new.session (g.K.Sink.contents c.report.new.out)) c.args.command.now.span (act c.args.command.now.kind) c.in-Ok.event c.report.result
    (rw c.note_declared.ensures.keeps c.in-Ok.ensures.taken)
    (record { lines = c.note_declared.ensures.lines ∙ c.in-Ok.ensures.lines; out = refl })
    c.report.ensures.keeps
    (c.report.ensures.told aloud)
    c.report.ensures.cut
