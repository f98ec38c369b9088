use Rattle.std.proofs.Common.{◌≡◌, ℕ, ◌<◌, false, get_or}
use Rattle.hb_givings.specs.Givings.{ungiven}
use Rattle.hb_givings.specs.Givings.{same_const}
use Rattle.plain_hierarchy.proofs.givings.binder_count.Given as goal

abbrev pub invariant-loop-at : goal.invariant-loop-at
invariant-loop-at l = (k : ℕ) → k < l.at → same_const (get_or l.givings k ungiven).carrier l.carrier ≡ false
