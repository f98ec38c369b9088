use Rattle.std.proofs.Common.{List, ◌++◌, take}
use Rattle.hb_calculus.specs.Declarations.{Decl, names, names_of, Distinct}
use Rattle.hb_env.specs.Plain.{plain}
use Rattle.hb_env.specs.Table.{IsTable}
use Rattle.hb_env.proofs.names.first_repeated.Given as goal

abbrev pub invariant-loop-at : goal.invariant-loop-at
invariant-loop-at l = (E : List Decl) → IsTable E l.table → Distinct (names E) → Distinct (names E ++ take l.at (names_of (plain l.decl)))
