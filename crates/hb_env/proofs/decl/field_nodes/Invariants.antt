use Rattle.std.proofs.Common.{◌≡◌, ◌-◌, ◌^◌, min, map, take}
use Rattle.hb_term.specs.Meaning.{tree}
use Rattle.hb_calculus.specs.Declarations.{all_nodes}
use Rattle.hb_env.proofs.decl.field_nodes.Given as goal

abbrev pub invariant-loop-field : goal.invariant-loop-field
invariant-loop-field l = l.sum ≡ min (all_nodes (map (λ f. tree f.1) (take l.field-index l.fields))) (2 ^ 64 - 1)
