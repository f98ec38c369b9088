-- What is left of the sources that are being read.
use Rattle.std.specs.Prelude.{◌≡◌, ℕ, List, [], ◌∷◌, Option, None, Some, reverse}
use Rattle.hb_io.specs.Told.{Told, TellsOnly}
use Rattle.hb_raw.specs.Views.{sentences}
use Rattle.hb_raw.specs.declared.word.Word.{Word}
use Rattle.hb_session.specs.Source.{IsSourceOf}
use Rattle.hb_top.specs.declared.source.Reading.{Reading}
use Rattle.hb_top.specs.Agenda.{Agenda, commands_then, source_end, required}

abbrev pub required_then : Option Word → Agenda → Agenda
required_then None ts = ts
required_then (Some w) ts = required w ∷ ts

-- the commands of a source that are left, its end, and the command that required it
abbrev pub reading_then : Reading → Agenda → Agenda
reading_then r ts = commands_then (sentences (reverse r.rest.items)) (source_end ∷ required_then r.required ts)

-- of the sources of a stack the last comes first
abbrev pub stack_then : List Reading → Agenda → Agenda
stack_then [] ts = ts
stack_then (r ∷ rs) ts = stack_then rs (reading_then r ts)

-- a source that was opened, with these bytes and names, for this command if there is one
pub record IsReading (i : ℕ) (bytes : List ℕ) (N : List (List ℕ)) (w : Option Word) (r : Reading) : Type 0 where
  pub source : IsSourceOf i bytes N (sentences (reverse r.rest.items))
  pub required_is : r.required ≡ w

-- the source of this name that a command required
pub record IsRequired (F : List ℕ → Told) (name : List ℕ) (N : List (List ℕ)) (w : Word) (r : Reading) : Type 0 where
  pub bytes : List ℕ
  pub told : TellsOnly (F name) bytes
  pub number : ℕ
  pub reading : IsReading number bytes N (Some w) r
