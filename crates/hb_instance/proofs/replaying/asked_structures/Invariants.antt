use Rattle.std.proofs.Common.{◌≡◌, map, take}
use Rattle.hb_instance.specs.Giving.{asked_by}
use Rattle.hb_instance.proofs.replaying.asked_structures.Given as goal

abbrev pub invariant-loop-binder : goal.invariant-loop-binder
invariant-loop-binder l = l.asked.items ≡ map (asked_by l.fn.hier) (take l.binder-index l.binders)
