use Rattle.std.proofs.Common.{length, sym, subst}
use Rattle.hb_order.specs.Givings.{condition}
use Rattle.hb_givings.specs.Givings.{givings_at}
use Rattle.hb_hier.specs.Hierarchy.{Hierarchy}
use Rattle.hb_hier.specs.Giving.{BindersBelow}
use Rattle.hb_hier.proofs.GivenLemmas.{asked-below}
use Rattle.hb_hier.proofs.hier.Hier.condition.Goals as goal

pub returns-clause-declared : goal.returns-clause-declared
returns-clause-declared c =
    subst (BindersBelow (length c.args.self.now.structures)) (sym c.condition.ensures)
    (subst (λ (h : Hierarchy). BindersBelow (length h.structures) (condition (givings_at c.self.inside.givings c.args.carrier) c.args.m.0)) c.self.view_is
    (asked-below (length c.self.inside.structures.items) c.self.inside.givings c.args.carrier c.self.invariant.asked c.args.m.0))
