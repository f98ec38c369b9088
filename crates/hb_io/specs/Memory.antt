-- What a depot in memory tells: all that it holds.
use Rattle.std.specs.Prelude.{ℕ, List, [], ◌∷◌, Option, None, Some, cond, string_bytes}
use Rattle.std.specs.Str.{bytes_eq}
use Rattle.hb_io.specs.declared.memory_depot.MemoryDepot.{MemoryDepot}
use Rattle.hb_io.specs.declared.memory_depot.MemoryFile.{MemoryFile}
use Rattle.hb_io.specs.Told.{Told, Missing, Holds}

-- the bytes of the first file of the name, or that there is none
abbrev pub told_of : List MemoryFile → (name : List ℕ) → Told
told_of [] name = Missing
told_of (file ∷ files) name =
    cond (bytes_eq name (string_bytes file.name)) (Holds file.bytes.items) (told_of files name)

-- what a depot in memory shows: its files and its two counts
abbrev pub file_of : MemoryDepot → (name : List ℕ) → Told
file_of depot name = told_of depot.files.items name

abbrev pub faults_of : MemoryDepot → ℕ
faults_of depot = depot.calls.faults

abbrev pub absents_of : MemoryDepot → ℕ
absents_of depot = depot.absents

-- what an answer with or without bytes tells
abbrev pub told_by : Option (List ℕ) → Told
told_by None = Missing
told_by (Some bytes) = Holds bytes
