use Rattle.hb_hier.specs.Declaring.{NoFault}
use Rattle.hb_items.proofs.items.check_names.Given as goal

abbrev pub invariant-loop-name : goal.invariant-loop-name
invariant-loop-name l = NoFault l.hier l.items l.name-index
