use Rattle.std.proofs.Common.{◌≡◌, ◌≤◌, length, take, min}
use Rattle.hb_givings.proofs.givings.Givings.cut.Given as goal

abbrev pub invariant-loop-self : goal.invariant-loop-self
invariant-loop-self l = (l.self ≡ take (length l.self) l.fn.self) × (min l.n (length l.fn.self) ≤ length l.self)

abbrev pub decreases-loop-self : goal.decreases-loop-self
decreases-loop-self l = length l.self
