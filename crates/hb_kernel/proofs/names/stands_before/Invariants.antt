use Rattle.std.proofs.Common.{take}
use Rattle.hb_calculus.specs.Declarations.{names_of, IsIn}
use Rattle.hb_env.specs.Plain.{plain}
use Rattle.hb_kernel.proofs.names.stands_before.Given as goal

abbrev pub invariant-loop-at : goal.invariant-loop-at
invariant-loop-at l = ¬ IsIn l.name.0 (take l.at (names_of (plain l.decl)))
