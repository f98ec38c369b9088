use Rattle.std.proofs.Common.{sym, ap, ◌∙◌}
use Rattle.hb_sets.specs.Set.{union}
use Rattle.hb_session.proofs.GoesLemmas.{with_factory, without_factory}
use Rattle.hb_session.proofs.take.local_set.Goals as goal
use Rattle.hb_world.specs.Worlds.{opened}

pub returns-in-None : goal.returns-in-None
returns-in-None c = without_factory c.args.hier.now (opened c.args.section.now) _ _ (sym c.name.ensures ∙ c.in-None.is) c.copy.ensures

pub returns-in-Some : goal.returns-in-Some
returns-in-Some c = with_factory c.args.hier.now (opened c.args.section.now) _ _ _ (sym c.name.ensures ∙ c.in-Some.is) (c.union.ensures ∙ ap (λ x. union x c.args.section.now.provided) c.req.ensures)
