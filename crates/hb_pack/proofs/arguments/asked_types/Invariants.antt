use Rattle.std.proofs.Common.{◌≡◌, List, map, take}
use Rattle.std.specs.Option.{option_map}
use Rattle.hb_sets.specs.Set.{Set}
use Rattle.hb_env.specs.Plain.{trees}
use Rattle.hb_paths.specs.Carriers.{asked_type}
use Rattle.hb_generated.specs.Reading.{shape_of}
use Rattle.hb_pack.proofs.arguments.asked_types.Given as goal

abbrev pub invariant-loop-s : goal.invariant-loop-s
invariant-loop-s l = (h : List Set) → trees l.types.items ≡ map (λ b. asked_type (shape_of l.tables h) (option_map (λ s. s.0) b)) (take l.s-index l.asked)
