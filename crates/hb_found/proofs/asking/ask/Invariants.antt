use Rattle.std.proofs.Common.{◌≡◌, ◌-◌, length}
use Rattle.hb_found.specs.Plain.{setting}
use Rattle.hb_found.specs.Frames.{IsAsking}
use Rattle.hb_found.proofs.asking.ask.Given as goal

abbrev pub invariant-loop-frame : goal.invariant-loop-frame
invariant-loop-frame l = IsAsking (setting l.reads) l.depth l.frame × (l.frame.walker ≡ l.fn.frame.walker) × (l.frame.moves ≡ l.fn.frame.moves)

abbrev pub decreases-loop-frame : goal.decreases-loop-frame
decreases-loop-frame l = length l.frame.needs.items - l.frame.at
