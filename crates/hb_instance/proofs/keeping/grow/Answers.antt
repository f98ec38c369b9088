use Rattle.hb_world.specs.Worlds.{opened}
use Rattle.hb_instance.proofs.GrowLemmas.{more_same, given_more, opened_more, opened_gave}
use Rattle.hb_instance.proofs.keeping.grow.Goals as goal

pub returns-in_err-add_names-clause-grew : goal.returns-in_err-add_names-clause-grew
returns-in_err-add_names-clause-grew c = opened_more (opened c.args.section.now) _ _ _ (more_same _) c.add_names.ensures

pub returns-in_err-add_terms-clause-grew : goal.returns-in_err-add_terms-clause-grew
returns-in_err-add_terms-clause-grew c = opened_more (opened c.args.section.now) _ _ _ (given_more _ _ c.add_terms.ensures) c.add_names.ensures

pub returns-clause-grew : goal.returns-clause-grew
returns-clause-grew c = opened_more (opened c.args.section.now) _ _ _ (given_more _ _ c.add_terms.ensures) c.add_names.ensures

pub returns-clause-gave : goal.returns-clause-gave
returns-clause-gave c = opened_gave (opened c.args.section.now) _ _ _ _ c.union-section.ensures (given_more _ _ c.add_terms.ensures) c.add_names.ensures
