use Rattle.std.proofs.Common.{◌++◌, take}
use Rattle.hb_calculus.specs.Declarations.{names, names_of, Distinct}
use Rattle.hb_env.specs.Plain.{plain}
use Rattle.hb_kernel.proofs.names.first_repeated.Given as goal

abbrev pub invariant-loop-at : goal.invariant-loop-at
invariant-loop-at l = Distinct (names l.env ++ take l.at (names_of (plain l.decl)))
