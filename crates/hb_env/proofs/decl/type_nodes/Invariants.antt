use Rattle.std.proofs.Common.{◌≡◌, ◌-◌, ◌^◌, min, map, take}
use Rattle.hb_term.specs.Meaning.{tree}
use Rattle.hb_calculus.specs.Declarations.{all_nodes}
use Rattle.hb_env.proofs.decl.type_nodes.Given as goal

abbrev pub invariant-loop-ty : goal.invariant-loop-ty
invariant-loop-ty l = l.sum ≡ min (all_nodes (map tree (take l.ty-index l.types))) (2 ^ 64 - 1)
