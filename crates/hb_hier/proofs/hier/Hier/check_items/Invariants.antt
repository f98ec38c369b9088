use Rattle.hb_hier.specs.Declaring.{NoFault}
use Rattle.hb_hier.proofs.hier.Hier.check_items.Given as goal

abbrev pub invariant-loop-name : goal.invariant-loop-name
invariant-loop-name l = NoFault l.self l.items l.name-index
