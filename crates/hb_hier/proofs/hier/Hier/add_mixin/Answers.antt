use Rattle.std.proofs.Common.{◌≡◌, ◌+◌, ◌≤◌, length, arith}
use Rattle.std.proofs.lemmas.Result.{err_from_is_err_and}
use Rattle.hb_base.specs.declared.count.Count.TheVariants.{Mixins}
use Rattle.std.proofs.lemmas.Grind.{common_steps}
use Rattle.hb_hier.specs.Hierarchy.{MOST}
use Rattle.hb_hier.specs.declared.known.Known.TheVariants.{Mixin}
use Rattle.hb_hier.proofs.GrewLemmas.{listed-after, last-listed}
use Rattle.hb_hier.proofs.FaultLemmas.{declare-fault}
use Rattle.hb_hier.proofs.hier.Hier.add_mixin.Goals as goal

pub returns-in_err-check_items-clause-refused : goal.returns-in_err-check_items-clause-refused
returns-in_err-check_items-clause-refused c =
    let p = err_from_is_err_and c.from_residual.result c.from_residual.ensures.1 in
    rw (p.1, p.2) (declare-fault c.args.self.now c.args.items.now Mixins (length c.args.self.now.mixins) _ c.in_err-check_items.ensures.refused)

pub invariant_of-self-2 : goal.invariant_of-self-2
invariant_of-self-2 c =
    let old = c.self.invariant in
    let longer : length c.push.new.self.items ≡ length c.self.inside.mixins.items + 1 = grind (arith, common_steps) in
    let more : length c.self.inside.mixins.items ≤ length c.push.new.self.items = omega (arith, longer) in
    let few : length c.push.new.self.items ≤ MOST = grind (arith, common_steps) in
    record {
      few_mixins = few;
      few_factories = old.few_factories;
      few_structures = old.few_structures;
      ended_once = old.ended_once;
      joined = old.joined;
      asked = old.asked;
      ordered = listed-after (length c.self.inside.mixins.items) (length c.self.inside.factories.items) (length c.self.inside.structures.items)
          (length c.push.new.self.items) (length c.self.inside.factories.items) (length c.self.inside.structures.items)
          c.self.inside.order.items _ (Mixin (record { 0 = length c.self.inside.mixins.items })) (grind (arith, common_steps)) more (omega arith) (omega arith)
          (last-listed (length c.self.inside.mixins.items) (length c.push.new.self.items) longer) old.ordered;
    }
