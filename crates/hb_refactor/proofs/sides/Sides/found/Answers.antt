use Rattle.hb_refactor.proofs.FoundLemmas.{number_is}
use Rattle.hb_refactor.proofs.sides.Sides.found.Goals as goal

pub returns : goal.returns
returns c = number_is c.args.self.now.new_names.now c.args.text.now c.find.result c.find.ensures.number c.find.ensures.none c.find.ensures.unique
