use Rattle.std.proofs.Common.{refl, rules, inr, subst}
use Rattle.hb_howto.specs.Ways.{AreWays}
use Rattle.hb_session.specs.Reporting.{wanted_of}
use Rattle.hb_session.proofs.queries.ways.Goals as goal

pub returns-in-Ok : goal.returns-in-Ok
returns-in-Ok c =
    inr (search rules, (c.in-Ok.lists, subst (λ x. AreWays c.args.hier.now (wanted_of c.args.hier.now c.args.s) x c.in-Ok.lists.items) c.given-given.ensures c.in-Ok.ensures.ways, refl))
