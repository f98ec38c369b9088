-- Terms closed over a context.
use Rattle.std.proofs.Common.{List, [], ◌∷◌, refl}
use Rattle.hb_tree.specs.Tree.{Tree}
use Rattle.hb_step.specs.Closing.{closed_type, closed_body, IsClosedOver}

pub is_closed : (G : List Tree) (t u : Tree) → IsClosedOver G (closed_type G t) (closed_body G u)
is_closed [] t u = tt
is_closed (a ∷ G) t u = (refl, refl, is_closed G t u)
