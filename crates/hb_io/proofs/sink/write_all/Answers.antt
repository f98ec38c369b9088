use Rattle.hb_io.proofs.Sent.{sent_more, length-left}
use Rattle.hb_io.proofs.sink.write_all.Goals as goal

pub loop-place-preserved : goal.loop-place-preserved
loop-place-preserved g c =
    sent_more _ _ _ _ _ _ c.args.bytes.now c.loop-place.place c.in_ok-place.field-0 c.loop-place.invariant (length-left c.args.bytes.now c.loop-place.place _ c.in_ok-place.ensures.within) c.in_ok-place.ensures.taken c.in_ok-place.ensures.cause.later
