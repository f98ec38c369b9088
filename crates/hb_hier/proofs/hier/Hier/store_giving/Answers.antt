use Rattle.std.proofs.Common.{length, sym, subst}
use Rattle.hb_hier.specs.Hierarchy.{Hierarchy}
use Rattle.hb_hier.specs.Giving.{BindersBelow}
use Rattle.hb_hier.proofs.GivenLemmas.{below-after}
use Rattle.hb_hier.proofs.hier.Hier.store_giving.Goals as goal

pub invariant_of-self-2 : goal.invariant_of-self-2
invariant_of-self-2 c =
    let old = c.self.invariant in
    record {
      few_mixins = old.few_mixins;
      few_factories = old.few_factories;
      few_structures = old.few_structures;
      ended_once = old.ended_once;
      joined = old.joined;
      ordered = old.ordered;
      asked = below-after (length c.self.inside.structures.items) c.self.inside.givings _ (record { carrier = c.args.carrier; giving = record { binders = c.args.binders.now; gives = c.args.gives } })
          c.in_ok-push.ensures.added old.asked
          (subst (λ (h : Hierarchy). BindersBelow (length h.structures) c.args.binders.now) (sym c.self.view_is) c.requires.declared);
    }
