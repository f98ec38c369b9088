use Rattle.std.proofs.Common.{length}
use Rattle.plain_reduction.proofs.eta.+are_projections.Given as goal

abbrev pub decreases-are_projections : goal.decreases-are_projections
decreases-are_projections l = length l.parts.now
