use Rattle.std.proofs.Common.{◌+◌}
use Rattle.hb_tree.specs.Tree.{nodes}
use Rattle.hb_reduce.specs.Frames.{plug, pending}
use Rattle.hb_reduce.specs.Rules.{rule_of, At}
use Rattle.hb_reduce.proofs.walk.advance.Given as goal

abbrev pub invariant-loop-now : goal.invariant-loop-now
invariant-loop-now l = At (rule_of l.fn.rule l.fn.env) (plug l.initial.frames l.fn.part) l.frames l.now

abbrev pub decreases-loop-now : goal.decreases-loop-now
decreases-loop-now l = pending l.frames + nodes l.now
