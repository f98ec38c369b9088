use Rattle.std.proofs.Common.{take}
use Rattle.hb_items.specs.Items.{AreItems}
use Rattle.hb_items.proofs.items.check_items.Given as goal

abbrev pub invariant-loop-item : goal.invariant-loop-item
invariant-loop-item l = AreItems l.hier l.carrier.name (take l.item-index l.items)
