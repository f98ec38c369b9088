use Rattle.std.proofs.Common.{refl, ap, arith, rules}
use Rattle.hb_raw.specs.Sentence.{sentence}
use Rattle.hb_raw.specs.Views.{act}
use Rattle.hb_top.specs.Trace.{point}
use Rattle.hb_top.proofs.TraceLemmas.{ended, no_fault, not_turned, passed, some_required, turned, turned_to}
use Rattle.hb_top.proofs.source.turn.Goals as goal

pub returns-in_default-clause-went : goal.returns-in_default-clause-went
returns-in_default-clause-went g c = λ aloud.
    ended (g.D.Depot.file c.args.depot.now) c.args.stack.now.items c.args.now (point c.args.session.now (g.K.Sink.contents c.args.out.now)) (point c.end.new.session (g.K.Sink.contents c.end.new.out)) c.end.result
    (search rules) (c.end.ensures.went aloud (g.D.Depot.file c.args.depot.now))

pub returns-in-Ok-Some-clause-went : goal.returns-in-Ok-Some-clause-went
returns-in-Ok-Some-clause-went g c = λ aloud.
    turned_to (Unit {0}) (g.D.Depot.file c.args.depot.now) c.args.stack.now.items c.push.new.self.items c.push-in-Ok-Some.new.self.items c.args.now (record c.args.now { rest = c.pop.new.self }) c.in-Ok-Some.required c.pop.new.self.items c.in-Some.command c.in-Require.name
    (point c.args.session.now (g.K.Sink.contents c.args.out.now)) (point c.require.new.session (g.K.Sink.contents c.args.out.now)) tt
    c.in-Some.ensures.items refl refl c.in_ok-push.ensures.items c.in_ok-push-in-Ok-Some.ensures.items
    (ap (λ k. sentence c.in-Some.command.span (act k)) c.in-Require.is) (some_required c.in-Ok-Some.field-0 c.in-Ok-Some.required _ c.in-Ok-Some.field-0-is c.in-Ok-Some.ensures.opened) c.require.ensures.only_names (record { lines = c.require.ensures.lines; out = refl })

pub returns-in-Require-clause-went : goal.returns-in-Require-clause-went
returns-in-Require-clause-went g c = λ aloud.
    not_turned (g.D.Depot.file c.args.depot.now) c.args.stack.now.items c.args.now (record c.args.now { rest = c.pop.new.self }) c.pop.new.self.items c.in-Some.command
    (point c.args.session.now (g.K.Sink.contents c.args.out.now)) (point c.require.new.session (g.K.Sink.contents c.args.out.now)) c.in-Err.stop
    c.in-Some.ensures.items refl refl c.require.ensures.only_names (record { lines = c.require.ensures.lines; out = refl })

pub returns : goal.returns
returns g c = record {
  depot_later = omega arith;
  sink_later = c.take.ensures.sink_later;
  source = no_fault _ _ c.take.ensures.source;
  sink = c.take.ensures.sink;
  printed = c.take.ensures.printed;
  files = λ n. refl;
  went = λ aloud.
      turned (Unit {0}) (g.D.Depot.file c.args.depot.now) c.args.stack.now.items c.push.new.self.items c.args.now (record c.args.now { rest = c.pop.new.self }) c.pop.new.self.items c.in-Some.command
      (point c.args.session.now (g.K.Sink.contents c.args.out.now)) (point c.take.new.session (g.K.Sink.contents c.take.new.out)) c.take.result
      c.in-Some.ensures.items refl refl c.in_ok-push.ensures.items (c.take.ensures.went aloud (g.D.Depot.file c.args.depot.now));
}

pub returns-in-Ok-None-clause-went : goal.returns-in-Ok-None-clause-went
returns-in-Ok-None-clause-went g c = λ aloud.
    turned (Unit {0}) (g.D.Depot.file c.args.depot.now) c.args.stack.now.items c.push.new.self.items c.args.now (record c.args.now { rest = c.pop.new.self }) c.pop.new.self.items c.in-Some.command
    (point c.args.session.now (g.K.Sink.contents c.args.out.now)) (point c.take_required.new.session (g.K.Sink.contents c.take_required.new.out)) c.take_required.result
    c.in-Some.ensures.items refl refl c.in_ok-push.ensures.items
    (passed (g.D.Depot.file c.args.depot.now) c.in-Some.command c.in-Require.name (point c.args.session.now (g.K.Sink.contents c.args.out.now)) (point c.require.new.session (g.K.Sink.contents c.args.out.now)) (point c.take_required.new.session (g.K.Sink.contents c.take_required.new.out)) c.take_required.result
    (ap (λ k. sentence c.in-Some.command.span (act k)) c.in-Require.is) c.require.ensures.only_names (record { lines = c.require.ensures.lines; out = refl })
    (c.take_required.ensures.went aloud (g.D.Depot.file c.args.depot.now)))
