use Rattle.std.proofs.Common.{◌≡◌, ◌++◌, length}
use Rattle.hb_unify.specs.Plain.{goals, stacked}
use Rattle.hb_unify.proofs.machine.put_before.Given as goal

abbrev pub invariant-loop-last : goal.invariant-loop-last
invariant-loop-last l = goals l.parts.items ++ stacked l.left.items ≡ goals l.fn.parts.items ++ stacked l.fn.left.items

abbrev pub decreases-loop-last : goal.decreases-loop-last
decreases-loop-last l = length l.parts.items
