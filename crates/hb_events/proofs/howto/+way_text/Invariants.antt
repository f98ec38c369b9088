use Rattle.std.proofs.Common.{length}
use Rattle.hb_events.proofs.howto.+way_text.Given as goal

abbrev pub decreases-way_text : goal.decreases-way_text
decreases-way_text l = length l.list.now
