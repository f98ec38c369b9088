use Rattle.std.proofs.Common.{refl, sym, ◌∙◌}
use Rattle.hb_top.specs.Trace.{point}
use Rattle.hb_top.proofs.TraceLemmas.{ends_alone, ends_required}
use Rattle.hb_top.proofs.source.end.Goals as goal

pub returns-in-Some-clause-went : goal.returns-in-Some-clause-went
returns-in-Some-clause-went g c = λ aloud F.
    ends_required F c.args.now.now.required c.in-Some.name (point c.args.session.now (g.K.Sink.contents c.args.out.now)) _ (point c.take_required.new.session (g.K.Sink.contents c.take_required.new.out)) c.take_required.result
    c.in-Some.is (sym c.is_in_section.ensures ∙ c.if-is_in_section.false) refl (record { lines = c.end.ensures.lines; out = refl }) (c.take_required.ensures.went aloud F)

pub returns-in-None-clause-went : goal.returns-in-None-clause-went
returns-in-None-clause-went g c = λ aloud F.
    ends_alone F c.args.now.now.required (point c.args.session.now (g.K.Sink.contents c.args.out.now)) _
    c.in-None.is (sym c.is_in_section.ensures ∙ c.if-is_in_section.false) refl (record { lines = c.end.ensures.lines; out = refl })
