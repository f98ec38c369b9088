use Rattle.hb_joins.proofs.ListLemmas.{earlier-kept}
use Rattle.hb_joins.proofs.holders.add_to_lists.Goals as goal

pub returns-clause-earlier : goal.returns-clause-earlier
returns-clause-earlier c =
    earlier-kept c.args.s c.args.set.now c.args.lists.now.items c.loop-m.lists.items c.loop-m.m c.loop-m.invariant.1
