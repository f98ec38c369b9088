use Rattle.hb_instance.specs.Growing.{HasMore}
use Rattle.hb_instance.proofs.keeping.add_terms.Given as goal

abbrev pub invariant-loop-role : goal.invariant-loop-role
invariant-loop-role l = HasMore l.fn.given.items l.given.items
