use Rattle.std.proofs.Common.{length}
use Rattle.hb_events.proofs.listing.+names_text.Given as goal

abbrev pub decreases-names_text : goal.decreases-names_text
decreases-names_text l = length l.list.now
