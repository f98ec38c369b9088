use Rattle.std.proofs.Common.{length}
use Rattle.hb_words.proofs.files.+are_no_libraries.Given as goal

abbrev pub decreases-are_no_libraries : goal.decreases-are_no_libraries
decreases-are_no_libraries l = length l.names.now
