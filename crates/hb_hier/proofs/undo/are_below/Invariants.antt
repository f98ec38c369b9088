use Rattle.std.proofs.Common.{◌≡◌, ℕ, ◌<◌, Some}
use Rattle.hb_order.specs.Givings.{binder}
use Rattle.hb_hier.proofs.undo.are_below.Given as goal

abbrev pub invariant-loop-at : goal.invariant-loop-at
invariant-loop-at l = (i t : ℕ) → i < l.at → binder l.binders i ≡ Some t → t < l.structures
