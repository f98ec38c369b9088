use Rattle.std.proofs.Common.{refl, Some}
use Rattle.hb_givings.specs.Givings.{givings_at}
use Rattle.plain_hierarchy.proofs.NeedLemmas.{none-needed}
use Rattle.plain_hierarchy.proofs.needs.has_need.Goals as goal

pub returns-in-None : goal.returns-in-None
returns-in-None c =
    none-needed c.args.structures.now (givings_at c.args.givings.now c.args.carrier) c.args.set.now c.args.at (c.in-None.ensures.none refl) c.is_asked.result c.is_asked.ensures

pub returns-in-Some : goal.returns-in-Some
returns-in-Some c = (λ _. (Some c.in-Some._s.0, c.in-Some.ensures.found), λ _. refl)
