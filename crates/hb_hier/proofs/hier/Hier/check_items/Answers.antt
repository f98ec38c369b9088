use Rattle.std.proofs.lemmas.Result.{err_from_is_err_and}
use Rattle.hb_hier.proofs.hier.Hier.check_items.Goals as goal

pub returns-in_err-check_item-clause-refused : goal.returns-in_err-check_item-clause-refused
returns-in_err-check_item-clause-refused c =
    let p = err_from_is_err_and c.from_residual.result c.from_residual.ensures.1 in
    rw (p.1, p.2) (record {
      at = c.loop-name.name-index;
      within = c.loop-name-test.true;
      fault_is = c.in_err-check_item.ensures.refused;
      before = c.loop-name.invariant;
    })
