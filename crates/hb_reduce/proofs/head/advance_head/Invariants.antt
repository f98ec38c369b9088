use Rattle.hb_tree.specs.Tree.{nodes}
use Rattle.hb_calculus.specs.Contraction.{contract}
use Rattle.hb_reduce.specs.Frames.{plug}
use Rattle.hb_reduce.specs.Kinds.{IsHeadPath}
use Rattle.hb_reduce.specs.Rules.{At}
use Rattle.hb_reduce.proofs.head.advance_head.Given as goal

abbrev pub invariant-loop-now : goal.invariant-loop-now
invariant-loop-now l = At (contract l.fn.env) (plug l.initial.frames l.fn.part) l.frames l.now × IsHeadPath l.frames

abbrev pub decreases-loop-now : goal.decreases-loop-now
decreases-loop-now l = nodes l.now
