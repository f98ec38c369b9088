use Rattle.std.proofs.Common.{◌≡◌, map, take}
use Rattle.hb_items.proofs.items.item_names.Given as goal

abbrev pub invariant-loop-item : goal.invariant-loop-item
invariant-loop-item l = l.names.items ≡ map (λ i. i.factory.name) (take l.item-index l.items)
