use Rattle.std.proofs.Common.{◌≡◌, ◌+◌, ◌≤◌, length, arith}
use Rattle.std.proofs.lemmas.Grind.{common_steps}
use Rattle.hb_hier.specs.Hierarchy.{MOST}
use Rattle.hb_hier.proofs.GrewLemmas.{listed-more}
use Rattle.std.proofs.lemmas.Result.{err_from_is_err_and}
use Rattle.hb_hier.proofs.FaultLemmas.{structure-fault}
use Rattle.hb_hier.proofs.hier.Hier.add_structure.Goals as goal

pub returns-in_err-check_items-clause-refused : goal.returns-in_err-check_items-clause-refused
returns-in_err-check_items-clause-refused c =
    let p = err_from_is_err_and c.from_residual.result c.from_residual.ensures.1 in
    rw (p.1, p.2) (structure-fault c.args.self.now c.args.items.now _ c.in_err-check_items.ensures.refused)

pub invariant_of-self-2 : goal.invariant_of-self-2
invariant_of-self-2 c =
    let old = c.self.invariant in
    let longer : length c.push_reserved.new.self.items ≡ length c.self.inside.structures.items + 1 = grind (arith, common_steps) in
    let more : length c.self.inside.structures.items ≤ length c.push_reserved.new.self.items = omega (arith, longer) in
    let few : length c.push_reserved.new.self.items ≤ MOST = grind (arith, common_steps) in
    record {
      few_mixins = old.few_mixins;
      few_factories = old.few_factories;
      few_structures = few;
      ended_once = old.ended_once;
      joined = grind (arith, common_steps);
      asked = λ i lt j t asks. omega (arith, more, old.asked i lt j t asks);
      ordered = listed-more (length c.self.inside.mixins.items) (length c.self.inside.factories.items) (length c.self.inside.structures.items)
          (length c.self.inside.mixins.items) (length c.self.inside.factories.items) (length c.push_reserved.new.self.items)
          c.self.inside.order.items (omega arith) (omega arith) more old.ordered;
    }
