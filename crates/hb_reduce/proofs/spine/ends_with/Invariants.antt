use Rattle.std.proofs.Common.{◌≡◌}
use Rattle.hb_reduce.specs.Spines.{ends_with}
use Rattle.hb_reduce.proofs.spine.ends_with.Given as goal

abbrev pub invariant-loop-left : goal.invariant-loop-left
invariant-loop-left l = ends_with l.now l.fn.rec l.left l.fn.of ≡ ends_with l.fn.part l.fn.rec l.fn.count l.fn.of

abbrev pub decreases-loop-left : goal.decreases-loop-left
decreases-loop-left l = l.left
