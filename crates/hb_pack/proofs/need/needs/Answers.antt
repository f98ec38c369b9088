use Rattle.hb_givings.specs.Givings.{givings_at}
use Rattle.hb_hier.specs.Hierarchy.{sets}
use Rattle.hb_first.proofs.FirstLemmas.{one_need}
use Rattle.hb_generated.specs.Reading.{need_of}
use Rattle.hb_generated.proofs.MeetLemmas.{need-is, is-need}
use Rattle.hb_pack.proofs.ArgumentLemmas.{numbers_turn}
use Rattle.hb_pack.proofs.need.needs.Goals as goal

pub loop-at-preserved : goal.loop-at-preserved
loop-at-preserved c =
    let h = sets c.args.hier.now in
    let gs = givings_at c.args.hier.now.givings c.args.carrier in
    let x = c.args.set.now in
    let i = c.loop-at.at in
    let all = c.structures_are_allowed.ensures in
    let declared = c.asked_are_declared.ensures in
    let below = c.members_are_small.ensures in
    let own = need-is h gs all declared x below i (is-need h gs all declared x below i _ c.need.ensures) in
    rw c.in_ok-push.ensures.items
    (numbers_turn (need_of h gs x) c.loop-at.needs.items i c.need.result (one_need h gs x i _ (need_of h gs x i) all c.need.ensures own) c.loop-at.invariant)
