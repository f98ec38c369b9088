use Rattle.std.proofs.Common.{◌≡◌, map, take}
use Rattle.std.specs.Option.{option_map}
use Rattle.hb_world.specs.Taking.{word_name}
use Rattle.hb_instance.specs.Giving.{asked_by}
use Rattle.hb_instance.proofs.allowing.asked_structures.Given as goal

abbrev pub invariant-loop-binder : goal.invariant-loop-binder
invariant-loop-binder l = l.asked.items ≡ map (λ b. asked_by l.fn.hier (option_map word_name b.1)) (take l.binder-index l.written.binders.now)
