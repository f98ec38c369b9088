use Rattle.std.proofs.Common.{◌≤◌}
use Rattle.hb_tree.specs.Tree.{depth}
use Rattle.hb_term.proofs.term.Part.+term.Given as goal

abbrev pub invariant-loop-last : goal.invariant-loop-last
invariant-loop-last l = depth l.self ≤ depth l.initial.self
