use Rattle.std.proofs.Common.{sym}
use Rattle.hb_quick.proofs.LookLemmas.{same-parts}
use Rattle.hb_quick.proofs.unfold.step_second.Goals as goal

pub returns-in_ok-share-in-Some : goal.returns-in_ok-share-in-Some
returns-in_ok-share-in-Some c =
    record { first = same-parts _ _ _ (sym c.in_ok-share-in-Some.ensures); second = rw c.in-Some.is at c.in_ok-y.ensures }
