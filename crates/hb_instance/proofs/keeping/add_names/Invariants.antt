use Rattle.hb_instance.specs.Growing.{HasMore}
use Rattle.hb_instance.proofs.keeping.add_names.Given as goal

abbrev pub invariant-loop-decl : goal.invariant-loop-decl
invariant-loop-decl l = HasMore l.fn.names.items l.names.items
