use Rattle.std.proofs.Common.{◌≡◌, sym}
use Rattle.std.specs.Prelude.{Some}
use Rattle.hb_calculus.specs.Contraction.{head_step}
use Rattle.hb_quick.proofs.LookLemmas.{head-convertible}
use Rattle.hb_quick.proofs.unfold.stepped.Goals as goal

pub returns-then-holds : goal.returns-then-holds
returns-then-holds c =
    let h : Some c.in-Some.next ≡ head_step c.args.env.now c.args.part.now = rw c.in-Some.is at c.in_ok-next.ensures in
    head-convertible _ _ _ (sym h)
