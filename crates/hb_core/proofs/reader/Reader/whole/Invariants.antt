use Rattle.std.proofs.Common.{length}
use Rattle.hb_core.proofs.reader.Reader.whole.Given as goal

abbrev pub decreases-loop-frame : goal.decreases-loop-frame
decreases-loop-frame l = length l.self.frames.items
