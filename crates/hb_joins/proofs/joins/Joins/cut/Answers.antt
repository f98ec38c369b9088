use Rattle.std.proofs.Common.{length, sym, subst, ap, arith}
use Rattle.std.proofs.lemmas.List.{length-take}
use Rattle.hb_order.specs.Allowed.{AllAllowed}
use Rattle.hb_order.proofs.AllowedLemmas.{AllAllowed-take}
use Rattle.hb_joins.proofs.ListLemmas.{held-cut}
use Rattle.hb_joins.proofs.TableLemmas.{table-cut}
use Rattle.hb_joins.proofs.joins.Joins.cut.Goals as goal

pub invariant_of-self : goal.invariant_of-self
invariant_of-self c =
    let old = c.self.invariant in
    let n = c.args.n in
    let sets = c.self.inside.sets.items in
    let is_sets = c.truncate.ensures.items in
    record {
      few = omega (arith, ap length is_sets, length-take n sets, old.few);
      allowed = subst AllAllowed (sym is_sets) (AllAllowed-take sets n old.allowed);
      table = table-cut sets _ c.self.inside.rows.items _ c.cut_rows.new.rows.items n is_sets c.truncate-2.ensures.items old.allowed old.table c.cut_rows.ensures;
      holders = held-cut sets _ c.self.inside.holders c.cut.new.self n is_sets old.holders c.cut.ensures;
    }
