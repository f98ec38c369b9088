-- What a run does to its session, and what its report tells of it.
use Rattle.std.specs.Prelude.{◌≡◌, ℕ, ◌+◌, ◌-◌, ◌^◌, min, true, false, List, [], ◌∷◌, length, Option, None, Result, Ok, Err, codes}
use Rattle.std.specs.Fmt.{decimal}
use Rattle.hb_base.specs.declared.name_id.NameId.{NameId}
use Rattle.hb_base.specs.declared.span.Span.{Span}
use Rattle.hb_calculus.specs.Declarations.{Decl, an_axiom, a_definition, a_record}
use Rattle.hb_env.specs.Plain.{plains}
use Rattle.hb_env.specs.declared.entry.Entry.{Entry}
use Rattle.hb_env.specs.declared.entry.Head.TheVariants as heads
use Rattle.hb_io.specs.Told.{grown, Told, TellsOnly}
use Rattle.hb_raw.specs.Sentence.{Act, require, Sentence, sentence}
use Rattle.hb_raw.specs.declared.word.Word.{Word}
use Rattle.hb_words.specs.Jobs.{is_library}
use Rattle.hb_writer.specs.Text.{joined}
use Rattle.hb_events.specs.Events.{IsToldAs, line_count}
use Rattle.hb_events.specs.declared.event.Event.{Event}
use Rattle.hb_events.specs.declared.event.Event.TheVariants as event
use Rattle.hb_session.specs.Growing.{GrowsBy, LeavesBy}
use Rattle.hb_session.specs.State.{State, state}
use Rattle.hb_session.specs.Reporting.{source_name}
use Rattle.hb_session.specs.Source.{IsLibrary, IsSourceOf}
use Rattle.hb_session.specs.Taking.{Takes, GoesOn, OnlyNames}
use Rattle.hb_session.specs.declared.session.Session.{Session}
use Rattle.hb_top.specs.Agenda.{Agenda, IsLeft, file, core_text, command, source_end, required, entry, library, declaration, commands_then, entries_then, declarations_then}
use Rattle.hb_top.specs.declared.stop.Stop.{Stop}
use Rattle.hb_top.specs.declared.stop.Stop.TheVariants.{Refused, SourceFault, SinkFault, NoMemory}

-- how far a run is: its session, how many lines its report has, and what the sink holds
pub record Point : Type 0 where
  pub state : State
  pub lines : ℕ
  pub out : Option (List ℕ)

abbrev pub point : Session → Option (List ℕ) → Point
point s out = record { state = state s; lines = s.files.lines; out = out }

-- the count of lines, which stands still at the end of its type
abbrev pub counted : (lines more : ℕ) → ℕ
counted lines more = min (lines + more) (2 ^ 64 - 1)

-- the line of a library that was loaded: its name and how many entries it has
abbrev pub library_line : (name : List ℕ) → ℕ → List ℕ
library_line name n = joined (codes "library " ∷ name ∷ codes ": " ∷ decimal n ∷ codes "\n" ∷ [])

-- the last line of files that were all compiled: how many lines were before
abbrev pub accepted_line : ℕ → List ℕ
accepted_line n = joined (codes "accepted " ∷ decimal n ∷ codes "\n" ∷ [])

-- nothing is written
pub record IsSilent (a b : Point) : Type 0 where
  pub lines : b.lines ≡ a.lines
  pub out : b.out ≡ a.out

-- so many lines are written
pub record Writes (a b : Point) (text : List ℕ) (more : ℕ) : Type 0 where
  pub lines : b.lines ≡ counted a.lines more
  pub out : b.out ≡ grown a.out text

-- the lines of an event are written, in the session that is there
pub record Tells (a b : Point) (e : Event) : Type 0 where
  pub text : List ℕ
  pub told : IsToldAs b.state.env b.state.back e text
  pub written : Writes a b text (line_count e)

-- the name of a declaration
abbrev pub name_of_decl : Decl → ℕ
name_of_decl (an_axiom n t) = n
name_of_decl (a_definition n t b) = n
name_of_decl (a_record n m ps k fs) = n

-- an entry of a library or of a core text is taken
pub record Loads (S : State) (e : Entry) (S' : State) : Type 0 where
  pub goes_on : GoesOn S S' (e ∷ [])
  pub grows : GrowsBy e.head (plains e.decls.items) S.env S.back S'.back
  pub leaves : LeavesBy e.head (plains e.decls.items) S.back.hier S.back.section S'.back.section

-- a file of the depot is read, which numbers names, and nothing is written
pub record Reads (F : List ℕ → Told) (name bytes : List ℕ) (a b : Point) : Type 0 where
  pub told : TellsOnly (F name) bytes
  pub names : OnlyNames a.state b.state
  pub silent : IsSilent a b

-- the entry of a declaration of a core text
pub record IsCoreEntry (d : Decl) (e : Entry) : Type 0 where
  pub head : e.head ≡ heads.Core
  pub decls : plains e.decls.items ≡ d ∷ []

-- the source that a command requires
abbrev pub required_source : State → Word → List ℕ
required_source S w = source_name S.back.names w.name.0

-- One step of a run over files that hold this, and what is left to be done then: names are numbered; a source, a library
-- or a core text is opened; a command is accepted and told; a source ends outside of sections; a command opens the source
-- that it requires, unless that was compiled before, and is accepted and told once it was compiled; an entry of a library
-- is taken; a library is told; a declaration of a core text is taken and told.
pub data Stride (F : List ℕ → Told) : (before : Agenda) → Point → (after : Agenda) → Point → Type 0 where
  numbers : {ts : Agenda} {a b : Point} → OnlyNames a.state b.state → IsSilent a b → Stride F ts a ts b
  opens :
      (ts : Agenda) {a b : Point} (name bytes : List ℕ) (i : ℕ) (cs : List Sentence)
      → is_library name ≡ false → Reads F name bytes a b → IsSourceOf i bytes b.state.back.names cs
      → Stride F (file name ∷ ts) a (commands_then cs (source_end ∷ ts)) b
  takes :
      {ts : Agenda} {a b : Point} (s : Span) (c : Act) (e : Event)
      → Takes a.state c e b.state → Tells a b e → Stride F (command (sentence s c) ∷ ts) a ts b
  closes : {ts : Agenda} {a b : Point} → a.state.back.section ≡ None → b.state ≡ a.state → IsSilent a b → Stride F (source_end ∷ ts) a ts b
  opens_required :
      (ts : Agenda) {a b : Point} (s : Span) (w : Word) (bytes : List ℕ) (i : ℕ) (cs : List Sentence)
      → Reads F (required_source a.state w) bytes a b → IsSourceOf i bytes b.state.back.names cs
      → Stride F (command (sentence s (require w)) ∷ ts) a (commands_then cs (source_end ∷ required w ∷ ts)) b
  passes : {ts : Agenda} {a b : Point} (s : Span) (w : Word) → b.state ≡ a.state → IsSilent a b → Stride F (command (sentence s (require w)) ∷ ts) a (required w ∷ ts) b
  takes_required :
      {ts : Agenda} {a b : Point} (w : Word) (e : Event)
      → Takes a.state (require w) e b.state → Tells a b e → Stride F (required w ∷ ts) a ts b
  opens_library :
      (ts : Agenda) {a b : Point} (name bytes : List ℕ) (es : List Entry)
      → is_library name ≡ true → Reads F name bytes a b → (a.state.back.names ≡ [] → IsLibrary bytes b.state.back.names es)
      → Stride F (file name ∷ ts) a (entries_then es (library name (length es) ∷ ts)) b
  loads : {ts : Agenda} {a b : Point} (e : Entry) → Loads a.state e b.state → IsSilent a b → Stride F (entry e ∷ ts) a ts b
  lists :
      {ts : Agenda} {a b : Point} (name : List ℕ) (n : ℕ)
      → b.state ≡ a.state → Writes a b (library_line name n) 1 → Stride F (library name n ∷ ts) a ts b
  opens_core :
      (ts : Agenda) {a b : Point} (name bytes : List ℕ) (ds : List Decl)
      → Reads F name bytes a b → Stride F (core_text name ∷ ts) a (declarations_then ds ts) b
  adds :
      {ts : Agenda} {a b : Point} (d : Decl) (e : Entry) (n : NameId)
      → IsCoreEntry d e → name_of_decl d ≡ n.0 → Loads a.state e b.state → Tells a b (event.Core n) → Stride F (declaration d ∷ ts) a ts b

-- any number of steps
pub data Goes (F : List ℕ → Told) (before : Agenda) (a : Point) : (after : Agenda) → Point → Type 0 where
  start : Goes F before a before a
  step : {mid after : Agenda} {m b : Point} → Goes F before a mid m → Stride F mid m after b → Goes F before a after b

-- it went to a place where something is left to be done
abbrev pub GoesPart : (F : List ℕ → Told) → (before : Agenda) → (a b : Point) → Type 0
GoesPart F before a b = (after : Agenda) × IsLeft after × Goes F before a after b

-- how far it went where it ended early: a device's fault and want of memory may cut the report
abbrev pub Halts : (F : List ℕ → Told) → (before : Agenda) → (a b : Point) → Stop → Type 0
Halts F before a b (Refused r) = GoesPart F before a b
Halts F before a b (SourceFault i) = GoesPart F before a b
Halts F before a b SinkFault = Unit {0}
Halts F before a b NoMemory = Unit {0}

-- from one agenda to another, or not whole
abbrev pub Ends : {A : Type 0} → (F : List ℕ → Told) → (before : Agenda) → Point → (after : Agenda) → Point → Result A Stop → Type 0
Ends F before a after b (Ok x) = Goes F before a after b
Ends F before a after b (Err stop) = Halts F before a b stop

-- a run did all that was to be done, and then its last line was written
pub record IsAccepted (F : List ℕ → Told) (before : Agenda) (a b : Point) : Type 0 where
  pub whole : Point
  pub went : Goes F before a [] whole
  pub state : b.state ≡ whole.state
  pub lines : b.lines ≡ whole.lines
  pub out : b.out ≡ grown whole.out (accepted_line whole.lines)

-- files were all compiled, or it ended early
abbrev pub Accepts : {A : Type 0} → (F : List ℕ → Told) → (before : Agenda) → (a b : Point) → Result A Stop → Type 0
Accepts F before a b (Ok x) = IsAccepted F before a b
Accepts F before a b (Err stop) = Halts F before a b stop
