use Rattle.std.proofs.Common.{ℕ, ◌<◌, slice_index_or}
use Rattle.hb_givings.specs.Givings.{ungiven}
use Rattle.hb_hier.specs.Giving.{BindersBelow}
use Rattle.hb_hier.proofs.hier.Hier.can_stand.Given as goal

abbrev pub invariant-loop-at : goal.invariant-loop-at
invariant-loop-at l = (i : ℕ) → i < l.at → BindersBelow l.mark.structures (slice_index_or l.self.givings i ungiven).giving.binders
