use Rattle.std.proofs.Common.{refl, ◌∙◌}
use Rattle.hb_top.specs.Trace.{point}
use Rattle.hb_top.proofs.TraceLemmas.{loaded_noted}
use Rattle.hb_top.proofs.library.load_entry.Goals as goal

pub returns-clause-went : goal.returns-clause-went
returns-clause-went g c = λ F o.
    loaded_noted F _ (point c.args.session.now o) (point c.replay.new.self o) (point c.note_required.new.session o) c.args.entry c.in-Ok.ensures.taken c.in-Ok.ensures.grows c.in-Ok.ensures.leaves c.note_required.ensures.keeps (record { lines = c.note_required.ensures.lines ∙ c.in-Ok.ensures.lines; out = refl })
