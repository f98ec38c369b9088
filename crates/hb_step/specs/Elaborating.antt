-- Refusals of elaboration.
use Rattle.hb_env.specs.declared.refusal.What.{What}
use Rattle.hb_env.specs.declared.refusal.What.TheVariants.{UnknownName, NotFunction, NotType, NotRecord, NotConvertible, Stuck, NoInstance, Unsolved, LevelTooHigh, Spent, Moves, NoMemory}

-- what elaboration may refuse
abbrev pub IsOfElaboration : What → Type 0
IsOfElaboration (UnknownName n) = Unit {0}
IsOfElaboration (NotFunction t) = Unit {0}
IsOfElaboration (NotType t) = Unit {0}
IsOfElaboration (NotRecord t) = Unit {0}
IsOfElaboration (NotConvertible a b) = Unit {0}
IsOfElaboration (Stuck a b) = Unit {0}
IsOfElaboration (NoInstance n t) = Unit {0}
IsOfElaboration Unsolved = Unit {0}
IsOfElaboration LevelTooHigh = Unit {0}
IsOfElaboration (Spent t) = Unit {0}
IsOfElaboration Moves = Unit {0}
IsOfElaboration NoMemory = Unit {0}
IsOfElaboration _ = ⊥
