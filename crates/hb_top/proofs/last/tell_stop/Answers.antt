use Rattle.std.proofs.Common.{sym}
use Rattle.hb_session.specs.State.{state}
use Rattle.hb_top.proofs.EndLemmas.{told_work}
use Rattle.hb_top.proofs.last.tell_stop.Goals as goal

pub returns-in-Ok-Some-clause-told : goal.returns-in-Ok-Some-clause-told
returns-in-Ok-Some-clause-told g c =
    told_work (state c.args.session.now).back.names (state c.args.session.now).env c.name-file.result.now c.args.stop.now
    (g.K.Sink.contents c.args.out.now) (g.K.Sink.contents c.end.new.out) c.end.result
    c.requires (rw c.status_of-wanted.ensures.same at c.status_of-wanted.ensures.early)
    (rw (sym c.in-Ok-Some.ensures.line, sym c.status_of-wanted.ensures.same, c.in-Ok-Some.field-0-is) (rw c.as_bytes.ensures.value at c.end.ensures.ends))

pub returns-in-Ok-Some-clause-cause : goal.returns-in-Ok-Some-clause-cause
returns-in-Ok-Some-clause-cause g c = record {
  printed = c.requires;
  file = c.name-file.result.now;
  finishes = rw (sym c.in-Ok-Some.ensures.line, sym c.status_of-wanted.ensures.same, c.in-Ok-Some.field-0-is) (rw c.as_bytes.ensures.value at c.end.ensures.ends);
}
