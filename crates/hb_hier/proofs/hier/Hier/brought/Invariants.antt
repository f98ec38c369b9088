use Rattle.std.proofs.Common.{◌≡◌, take}
use Rattle.hb_hier.specs.Hierarchy.{brought}
use Rattle.hb_hier.proofs.hier.Hier.brought.Given as goal

abbrev pub invariant-loop-name : goal.invariant-loop-name
invariant-loop-name l = l.all ≡ brought l.self (take l.name-index l.items)
