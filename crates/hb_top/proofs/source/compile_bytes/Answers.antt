use Rattle.std.proofs.Common.{refl}
use Rattle.hb_top.specs.Trace.{point}
use Rattle.hb_top.proofs.TraceLemmas.{opened_source, stack_of_one, then_ends}
use Rattle.hb_top.proofs.source.compile_bytes.Goals as goal

pub returns-clause-went : goal.returns-clause-went
returns-clause-went g c = λ aloud name l told.
    then_ends (Unit {0}) (g.D.Depot.file c.args.depot.now) _ _ _ (point c.args.session.now (g.K.Sink.contents c.args.out.now)) (point c.read_source.new.session (g.K.Sink.contents c.args.out.now)) (point c.take_all.new.session (g.K.Sink.contents c.take_all.new.out)) c.take_all.result
    (opened_source (g.D.Depot.file c.args.depot.now) _ (point c.args.session.now (g.K.Sink.contents c.args.out.now)) (point c.read_source.new.session (g.K.Sink.contents c.args.out.now)) name c.args.bytes.now c.args.file c.in-Ok.first l told
    c.read_source.ensures.only_names (record { lines = c.read_source.ensures.lines; out = refl }) c.in-Ok.ensures.opened)
    (rw (stack_of_one c.push.new.self.items c.new-stack.result.items c.in-Ok.first c.in_ok-push.ensures.items c.new-stack.ensures.items) (c.take_all.ensures.went aloud))
