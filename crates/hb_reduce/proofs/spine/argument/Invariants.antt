use Rattle.std.proofs.Common.{◌≡◌}
use Rattle.hb_reduce.specs.Spines.{argument}
use Rattle.hb_reduce.proofs.spine.argument.Given as goal

abbrev pub invariant-loop-f : goal.invariant-loop-f
invariant-loop-f l = argument l.now l.left ≡ argument l.fn.part l.fn.behind
