use Rattle.std.proofs.Common.{◌≡◌, take}
use Rattle.hb_env.specs.Plain.{trees}
use Rattle.hb_items.proofs.compare.same_params.Given as goal

abbrev pub invariant-loop-at : goal.invariant-loop-at
invariant-loop-at l = trees (take l.at l.a) ≡ trees (take l.at l.b)
