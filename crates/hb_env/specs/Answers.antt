-- Why a declaration is not added.
use Rattle.std.specs.Prelude.{List, ◌++◌}
use Rattle.hb_calculus.specs.Declarations.{Decl, names, names_of, Distinct}
use Rattle.hb_env.specs.declared.error.EnvRefused.{EnvRefused}
use Rattle.hb_env.specs.declared.error.EnvRefused.TheVariants.{Redeclared, TooMany, NoMemory}
use Rattle.hb_env.specs.Naming.{IsFirstRepeated}
use Rattle.hb_env.specs.Environment.{IsPassed}

-- the cause of each refusal of d after the environment E; a repeated name comes before a count
abbrev pub IsCause : List Decl → Decl → EnvRefused → Type 0
IsCause E d (Redeclared n) = IsFirstRepeated (names E) (names_of d) n.0
IsCause E d (TooMany c) = Distinct (names E ++ names_of d) × IsPassed E d c
IsCause E d NoMemory = Unit {0}
