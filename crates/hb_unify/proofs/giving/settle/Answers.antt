use Rattle.std.proofs.Common.{◌≡◌, ◌<◌, length, get_or, rules}
use Rattle.hb_unify.proofs.GivingLemmas.{settle_more}
use Rattle.hb_unify.proofs.giving.settle.Goals as goal

pub loop-slot-preserved : goal.loop-slot-preserved
loop-slot-preserved c =
    let lt : c.loop-slot.slot-index < length c.args.holes.now = search rules in
    let e : c.slot-item.result ≡ get_or c.args.holes.now c.loop-slot.slot-index c.slot-item.result = search (rules, c.slot-item.is) in
    rw c.in_ok-push.ensures.items
    (settle_more c.args.holes.now c.loop-slot.slot-index c.loop-slot.out.items c.in_ok-refill.field-0 c.slot-item.result lt e c.loop-slot.invariant c.in_ok-refill.ensures)
