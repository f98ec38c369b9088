use Rattle.std.proofs.Common.{◌≡◌, map, take}
use Rattle.std.specs.Option.{option_map}
use Rattle.hb_world.specs.Taking.{word_name}
use Rattle.hb_instance.proofs.command.structure_names.Given as goal

abbrev pub invariant-loop-binder : goal.invariant-loop-binder
invariant-loop-binder l = l.names.items ≡ map (λ b. option_map word_name b.1) (take l.binder-index l.binders)
