use Rattle.std.proofs.Common.{Some, refl}
use Rattle.hb_hier.proofs.hier.Hier.has_need.Goals as goal

pub returns-in-Least : goal.returns-in-Least
returns-in-Least c = (λ _. (Some c.in-Least._s.0, c.in-Least.ensures), λ _. refl)
