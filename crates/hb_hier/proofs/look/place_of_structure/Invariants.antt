use Rattle.std.proofs.Common.{◌≡◌, ℕ, ◌<◌, false, get_or, nat_eq}
use Rattle.hb_hier.specs.Hierarchy.{ungrouped}
use Rattle.hb_hier.proofs.look.place_of_structure.Given as goal

abbrev pub invariant-loop-at : goal.invariant-loop-at
invariant-loop-at l = (k : ℕ) → k < l.at → nat_eq (get_or l.list.items k ungrouped).name.0 l.name.0 ≡ false
