use Rattle.std.proofs.Common.{◌≡◌, take}
use Rattle.hb_env.specs.Plain.{plains}
use Rattle.hb_items.proofs.compare.first_other.Given as goal

abbrev pub invariant-loop-at : goal.invariant-loop-at
invariant-loop-at l = plains (take l.at l.decls) ≡ plains (take l.at l.made)
