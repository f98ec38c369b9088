use Rattle.std.proofs.Common.{arith, ℕ, subst}
use Rattle.hb_hier.specs.Hierarchy.{sets}
use Rattle.hb_givings.specs.Givings.{givings_at}
use Rattle.hb_hier.specs.Least.{IsFoundBelow}
use Rattle.hb_hier.proofs.NeedLemmas.{found-after, found-all}
use Rattle.hb_hier.proofs.hier.Hier.need_at.Goals as goal

pub loop-m-preserved : goal.loop-m-preserved
loop-m-preserved c = (
  found-after (sets c.args.self.now) (givings_at c.args.self.now.givings c.args.carrier) c.args.set.now c.args.at c.asked_are_declared.ensures c.loop-m.m c.loop-m.need _ c.need_after-need.ensures.found c.loop-m.invariant.0,
  c.need_after-need.ensures.declared,
)

pub returns : goal.returns
returns c =
    found-all (sets c.args.self.now) (givings_at c.args.self.now.givings c.args.carrier) c.args.set.now c.args.at 1024 c.members_are_small.ensures c.loop-m.need
    (subst (λ (n : ℕ). IsFoundBelow (sets c.args.self.now) (givings_at c.args.self.now.givings c.args.carrier) c.args.set.now c.args.at n c.loop-m.need) (omega arith) c.loop-m.invariant.0)
