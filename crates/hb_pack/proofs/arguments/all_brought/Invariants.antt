use Rattle.std.proofs.Common.{List}
use Rattle.hb_sets.specs.Set.{Set}
use Rattle.hb_env.specs.Plain.{trees}
use Rattle.hb_generated.specs.Reading.{shape_of, coercion_in}
use Rattle.hb_pack.proofs.ArgumentLemmas.{IsRest}
use Rattle.hb_pack.proofs.arguments.all_brought.Given as goal

abbrev pub invariant-loop-at : goal.invariant-loop-at
invariant-loop-at l = (h : List Set) → IsRest (shape_of l.tables h) (coercion_in l.tables) l.from l.to l.args (trees l.terms.items) l.at
