use Rattle.std.proofs.lemmas.Result.{err_from_is_err_and}
use Rattle.hb_items.proofs.ItemLemmas.{items_turn, items_cause}
use Rattle.hb_items.proofs.items.check_items.Goals as goal

pub loop-item-preserved : goal.loop-item-preserved
loop-item-preserved c = items_turn c.args.hier.now c.args.carrier.name c.args.items.now c.loop-item.item-index _ c.loop-item-test.true c.in_ok-check_item.ensures.item c.loop-item.invariant

pub returns-in_err-check_item-clause-refused : goal.returns-in_err-check_item-clause-refused
returns-in_err-check_item-clause-refused c =
    let p = err_from_is_err_and c.from_residual.result c.from_residual.ensures.1 in
    rw (p.1, p.2) (items_cause c.args.hier.now c.args.carrier.name c.args.items.now c.loop-item.item-index _ _ c.loop-item-test.true c.loop-item.invariant c.in_err-check_item.ensures.refused)
