use Rattle.hb_reader.specs.Stacks.{height}
use Rattle.hb_reader.proofs.stack.Stack.+closed.Given as goal

-- each frame is taken off once
abbrev pub decreases-closed : goal.decreases-closed
decreases-closed l = height l.self
