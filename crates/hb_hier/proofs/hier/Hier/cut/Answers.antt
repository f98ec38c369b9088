use Rattle.std.proofs.Common.{length, take, sym, ap, ◌∙◌, subst}
use Rattle.hb_hier.specs.Hierarchy.{MOST, Hierarchy}
use Rattle.hb_hier.specs.Giving.{AllBindersBelow}
use Rattle.hb_hier.specs.Undoing.{cut}
use Rattle.hb_hier.proofs.StructureLemmas.{joined-take}
use Rattle.hb_hier.proofs.GrewLemmas.{listed-cut}
use Rattle.hb_hier.proofs.UndoLemmas.{length-of, few-take, below-cut, distinct-cut}
use Rattle.hb_hier.proofs.hier.Hier.cut.Goals as goal

pub invariant_of-self : goal.invariant_of-self
invariant_of-self c =
    let old = c.self.invariant in
    let view = c.self.view_is in
    let n = c.args.mark.givings in
    let asked = subst (λ (h : Hierarchy). AllBindersBelow c.args.mark.structures (take c.args.mark.givings h.givings)) (sym view) c.requires.asked in
    record {
      few_mixins = few-take c.args.mark.mixins MOST c.self.inside.mixins.items _ c.truncate.ensures.items old.few_mixins;
      few_factories = few-take c.args.mark.factories MOST c.self.inside.factories.items _ c.truncate-2.ensures.items old.few_factories;
      few_structures = few-take c.args.mark.structures MOST c.self.inside.structures.items _ c.truncate-4.ensures.items old.few_structures;
      ended_once = distinct-cut c.self.inside.endings.items _ c.args.mark.ended c.truncate-3.ensures.items old.ended_once;
      joined = joined-take c.self.inside.structures.items _ c.self.inside.joins c.cut.new.self c.args.mark.structures c.truncate-4.ensures.items c.cut.ensures old.joined;
      ordered = listed-cut c.args.mark.mixins c.args.mark.factories c.args.mark.structures
          (length c.self.inside.mixins.items) (length c.self.inside.factories.items) (length c.self.inside.structures.items) _ _ _
          c.self.inside.order.items _ c.keep_order.ensures
          (length-of c.args.mark.mixins _ _ c.truncate.ensures.items) (length-of c.args.mark.factories _ _ c.truncate-2.ensures.items) (length-of c.args.mark.structures _ _ c.truncate-4.ensures.items)
          old.ordered;
      asked = below-cut c.self.inside.structures.items _ c.self.inside.givings _ c.args.mark.structures n c.truncate-4.ensures.items c.cut-2.ensures old.asked asked;
    }

pub returns : goal.returns
returns c =
    (λ i. record {
      order = c.keep_order.ensures i;
      mixins = c.truncate.ensures.items i;
      factories = c.truncate-2.ensures.items i;
      endings = c.truncate-3.ensures.items i;
      structures = c.truncate-4.ensures.items i;
      givings = c.cut-2.ensures i;
    })
    ∙ ap (λ (h : Hierarchy). cut h c.args.mark) c.self.view_is
