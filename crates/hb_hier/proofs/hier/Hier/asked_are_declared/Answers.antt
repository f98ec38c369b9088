use Rattle.std.proofs.Common.{length, subst}
use Rattle.hb_order.specs.Needs.{AskedDeclared}
use Rattle.hb_hier.specs.Hierarchy.{Hierarchy, sets}
use Rattle.hb_givings.specs.Givings.{givings_at}
use Rattle.hb_hier.proofs.GivenLemmas.{asked-below}
use Rattle.hb_hier.proofs.StructureLemmas.{declared-in}
use Rattle.hb_hier.proofs.hier.Hier.asked_are_declared.Goals as goal

pub returns : goal.returns
returns c =
    subst (λ (h : Hierarchy). AskedDeclared (sets h) (givings_at h.givings c.args.carrier)) c.self.view_is
    (λ m i t asks. declared-in c.self.inside.structures.items t (asked-below (length c.self.inside.structures.items) c.self.inside.givings c.args.carrier c.self.invariant.asked m i t asks))
