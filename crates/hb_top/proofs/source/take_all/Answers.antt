use Rattle.std.proofs.Common.{arith, ◌∙◌}
use Rattle.hb_top.specs.Trace.{point}
use Rattle.hb_top.proofs.TraceLemmas.{then_same_goes, then_same_halts, turn_begins}
use Rattle.hb_top.proofs.source.take_all.Goals as goal

pub returns-in-Err-clause-went : goal.returns-in-Err-clause-went
returns-in-Err-clause-went g c = λ aloud.
    then_same_halts (g.D.Depot.file c.args.depot.now) (g.D.Depot.file c.turns.depot) _ _ (point c.args.session.now (g.K.Sink.contents c.args.out.now)) (point c.turns.session (g.K.Sink.contents c.turns.out)) (point c.turn.new.session (g.K.Sink.contents c.turn.new.out)) c.in-Err.stop
    c.turns.invariant.files (c.turns.invariant.went aloud) (rw (turn_begins c.turns.stack.items c.pop.new.self.items c.in-Some.now c.in-Some.ensures.items) (c.in-Err.ensures.went aloud))

pub turns-preserved : goal.turns-preserved
turns-preserved g c = record {
  depot_later = omega (arith, c.turns.invariant.depot_later, c.in-Ok.ensures.depot_later);
  sink_later = omega (arith, c.turns.invariant.sink_later, c.in-Ok.ensures.sink_later);
  files = λ n. c.in-Ok.ensures.files n ∙ c.turns.invariant.files n;
  went = λ aloud.
      then_same_goes (g.D.Depot.file c.args.depot.now) (g.D.Depot.file c.turns.depot) _ _ _ (point c.args.session.now (g.K.Sink.contents c.args.out.now)) (point c.turns.session (g.K.Sink.contents c.turns.out)) (point c.turn.new.session (g.K.Sink.contents c.turn.new.out))
      c.turns.invariant.files (c.turns.invariant.went aloud) (rw (turn_begins c.turns.stack.items c.pop.new.self.items c.in-Some.now c.in-Some.ensures.items) (c.in-Ok.ensures.went aloud));
}
