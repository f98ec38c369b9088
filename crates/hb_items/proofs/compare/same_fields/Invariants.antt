use Rattle.std.proofs.Common.{◌≡◌, take}
use Rattle.hb_env.specs.Plain.{plain_fields}
use Rattle.hb_items.proofs.compare.same_fields.Given as goal

abbrev pub invariant-loop-at : goal.invariant-loop-at
invariant-loop-at l = plain_fields (take l.at l.a) ≡ plain_fields (take l.at l.b)
