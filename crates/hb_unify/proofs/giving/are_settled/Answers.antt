use Rattle.std.proofs.Common.{◌≡◌, ◌<◌, ◌∙◌, length, get_or, sym, rules}
use Rattle.hb_unify.proofs.GivingLemmas.{settled_more}
use Rattle.hb_unify.proofs.giving.are_settled.Goals as goal

pub loop-slot-preserved : goal.loop-slot-preserved
loop-slot-preserved c =
    let lt : c.loop-slot.slot-index < length c.args.holes.now = search rules in
    let e : c.slot-item.result ≡ get_or c.args.holes.now c.loop-slot.slot-index c.slot-item.result = search (rules, c.slot-item.is) in
    settled_more c.args.holes.now c.loop-slot.slot-index c.slot-item.result lt e c.loop-slot.invariant (sym c.has_hole.ensures ∙ c.if-has_hole.false)
