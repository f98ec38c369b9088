use Rattle.std.proofs.Common.{◌≡◌, Bool, true, false, not, length, take, ◌≤◌, sym, subst, true≢false, ◌∙◌, ap}
use Rattle.hb_hier.specs.Hierarchy.{Hierarchy}
use Rattle.hb_hier.specs.Giving.{BindersBelow, AllBindersBelow}
use Rattle.hb_hier.proofs.UndoLemmas.{below_kept}
use Rattle.hb_hier.proofs.hier.Hier.can_stand.Goals as goal

pub returns-then-not-are_below : goal.returns-then-not-are_below
returns-then-not-are_below c = (
  λ f. absurd (true≢false (sym f)),
  λ can.
      let within = subst (λ (h : Hierarchy). c.args.mark.givings ≤ length h.givings) (sym c.self.view_is) can.givings in
      let asked = subst (λ (h : Hierarchy). AllBindersBelow c.args.mark.structures (take c.args.mark.givings h.givings)) (sym c.self.view_is) can.asked in
      let below = subst (BindersBelow c.args.mark.structures) (sym c.asked.ensures) (below_kept c.self.inside.givings c.args.mark.structures c.args.mark.givings within asked c.loop-at.at c.loop-at-test.true) in
      let yes : c.are_below.result ≡ true = c.are_below.ensures.1 below in
      absurd (true≢false (sym yes ∙ c.if-not-are_below.true)),
)
