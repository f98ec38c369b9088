-- What is left to be done of the files of a run.
use Rattle.std.specs.Prelude.{ℕ, List, [], ◌∷◌, Option, None, Some, map, reverse, string_bytes}
use Rattle.hb_base.specs.declared.name_id.NameId.{NameId}
use Rattle.hb_calculus.specs.Declarations.{Decl}
use Rattle.hb_env.specs.declared.entry.Entry.{Entry}
use Rattle.hb_raw.specs.Sentence.{Sentence}
use Rattle.hb_raw.specs.declared.word.Word.{Word}
use Rattle.hb_words.specs.declared.job.Job.{Job}
use Rattle.hb_words.specs.declared.job.Job.TheVariants as jobs

-- A file of the command line, which is a library by its ending or a source; a core text; a command of a source; the
-- end of a source; a command that required a source, once that was compiled; an entry of a library; the line of a
-- library and of how many entries; a declaration of a core text.
pub data Task : Type 0 where
  file : List ℕ → Task
  core_text : List ℕ → Task
  command : Sentence → Task
  source_end : Task
  required : Word → Task
  entry : Entry → Task
  library : List ℕ → ℕ → Task
  declaration : Decl → Task

-- in order
abbrev pub Agenda : Type 0
Agenda = List Task

-- something is left
abbrev pub IsLeft : Agenda → Type 0
IsLeft [] = ⊥
IsLeft (t ∷ ts) = Unit {0}

-- the parts of a file, and then what is behind it
abbrev pub files_then : List (List ℕ) → Agenda → Agenda
files_then [] ts = ts
files_then (n ∷ ns) ts = file n ∷ files_then ns ts

abbrev pub commands_then : List Sentence → Agenda → Agenda
commands_then [] ts = ts
commands_then (c ∷ cs) ts = command c ∷ commands_then cs ts

abbrev pub entries_then : List Entry → Agenda → Agenda
entries_then [] ts = ts
entries_then (e ∷ es) ts = entry e ∷ entries_then es ts

abbrev pub declarations_then : List Decl → Agenda → Agenda
declarations_then [] ts = ts
declarations_then (d ∷ ds) ts = declaration d ∷ declarations_then ds ts

-- the files of a job that compiles some
abbrev pub agenda_of : Job → Agenda
agenda_of (jobs.Compile steps rocq listing files) = files_then (map string_bytes files.items) []
agenda_of (jobs.Save steps lib files) = files_then (map string_bytes files.items) []
agenda_of (jobs.Core steps name) = core_text (string_bytes name) ∷ []
agenda_of (jobs.Certify steps cert files) = files_then (map string_bytes files.items) []
agenda_of _ = []
