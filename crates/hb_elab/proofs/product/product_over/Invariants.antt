use Rattle.std.proofs.Common.{length}
use Rattle.hb_elab.proofs.product.product_over.Given as goal

abbrev pub decreases-loop-domain : goal.decreases-loop-domain
decreases-loop-domain l = length l.domains.items
