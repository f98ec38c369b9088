use Rattle.std.proofs.Common.{length, ◌-◌}
use Rattle.hb_io.proofs.Sent.{Sent}
use Rattle.hb_io.proofs.sink.write_all.Given as goal

abbrev pub invariant-loop-place : goal.invariant-loop-place
invariant-loop-place g l =
    Sent (g.K.Sink.contents l.initial.sink) (g.K.Sink.contents l.sink) (g.K.Sink.faults l.initial.sink) (g.K.Sink.faults l.sink) l.bytes l.place

abbrev pub decreases-loop-place : goal.decreases-loop-place
decreases-loop-place g l = length l.bytes - l.place
