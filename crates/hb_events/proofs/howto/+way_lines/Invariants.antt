use Rattle.std.proofs.Common.{length}
use Rattle.hb_events.proofs.howto.+way_lines.Given as goal

abbrev pub decreases-way_lines : goal.decreases-way_lines
decreases-way_lines l = length l.lists.now
