use Rattle.std.proofs.Common.{refl}
use Rattle.hb_top.specs.Trace.{point}
use Rattle.hb_top.proofs.TraceLemmas.{nothing_done, then_same_ends, told_later_on}
use Rattle.hb_top.proofs.source.compile_source.Goals as goal

pub returns-clause-went : goal.returns-clause-went
returns-clause-went g c = λ aloud l.
    then_same_ends (Unit {0}) (g.D.Depot.file c.args.depot.now) (g.D.Depot.file c.read.new.depot) _ _ _ (point c.args.session.now (g.K.Sink.contents c.args.out.now)) _ (point c.compile_bytes.new.session (g.K.Sink.contents c.compile_bytes.new.out)) c.compile_bytes.result
    c.read.ensures.files (nothing_done (g.D.Depot.file c.args.depot.now) _ (point c.args.session.now (g.K.Sink.contents c.args.out.now)) _ refl (record { lines = c.begin-2.ensures.lines; out = refl }))
    (c.compile_bytes.ensures.went aloud c.args.name.now l
    (rw c.as_slice.ensures.value (told_later_on (g.D.Depot.file c.args.depot.now) (g.D.Depot.file c.read.new.depot) c.args.name.now c.in-Ok.bytes.items c.read.ensures.files c.in-Ok.ensures.told)))
