use Rattle.std.proofs.Common.{◌≡◌, ℕ, ◌<◌, false, get_or, nat_eq}
use Rattle.hb_hier.specs.Hierarchy.{unended}
use Rattle.hb_hier.proofs.sets.provision.Given as goal

abbrev pub invariant-loop-at : goal.invariant-loop-at
invariant-loop-at l = (k : ℕ) → k < l.at → nat_eq (get_or l.endings.items k unended).factory.0 l.f.0 ≡ false
