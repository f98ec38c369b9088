use Rattle.std.proofs.Common.{◌≡◌, Some, subst}
use Rattle.hb_env.specs.Naming.{name_in}
use Rattle.hb_env.specs.declared.named.Named.TheVariants.{Const}
use Rattle.hb_session.proofs.GoesLemmas.{tells_ways}
use Rattle.hb_session.proofs.queries.howto.Goals as goal

pub returns : goal.returns
returns c =
    tells_ways _ _ _ _ _ _ c.ways.result c.in-Ok.ensures.found
    (subst (λ E. name_in E (Const c.in-Ok-carrier_of.constant) ≡ Some c.args.carrier.name.0) c.env.ensures.same c.in-Ok-carrier_of.ensures) c.ways.ensures
