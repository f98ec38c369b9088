use Rattle.std.proofs.Common.{◌∙◌}
use Rattle.hb_top.proofs.refactor.refactor.Goals as goal

pub returns-in-Done-clause-files : goal.returns-in-Done-clause-files
returns-in-Done-clause-files g c = λ n. c.refactor_from.ensures.files n ∙ c.compile_library.ensures.files n
