-- What the report of a run tells, where its words compile commands.
use Rattle.std.specs.Prelude.{◌≡◌, ◌⊎◌, ℕ, Bool, true, false, cond, List, [], ◌∷◌, Option, None, Some, Result, Ok, Err, codes}
use Rattle.std.specs.Fmt.{decimal}
use Rattle.std.specs.Str.{bytes_eq}
use Rattle.hb_io.specs.Told.{grown, Told}
use Rattle.hb_writer.specs.Text.{joined}
use Rattle.hb_words.specs.Asked.{AsksFor}
use Rattle.hb_words.specs.Jobs.{word_of}
use Rattle.hb_words.specs.declared.job.Job.{Job}
use Rattle.hb_words.specs.declared.job.Job.TheVariants as jobs
use Rattle.hb_session.specs.State.{State, nothing}
use Rattle.hb_top.specs.Agenda.{Agenda, agenda_of}
use Rattle.hb_top.specs.Trace.{Point, GoesPart, IsAccepted}
use Rattle.hb_top.specs.declared.stop.Stop.{Stop}
use Rattle.hb_top.specs.declared.stop.Stop.TheVariants.{Refused, SourceFault, SinkFault, NoMemory}
use Rattle.hb_top.specs.Report.{IsToldIn}
use Rattle.hb_top.specs.declared.status.Status.{Status}
use Rattle.hb_top.specs.declared.status.Status.TheVariants as status

-- what a first word asks for
pub data Kind : Type 0 where
  compiling : Kind
  saving : Kind
  certifying : Kind
  other : Kind

abbrev pub asked_by : List ℕ → Kind
asked_by word =
    cond
    (bytes_eq word (codes "compile"))
    compiling
    (cond (bytes_eq word (codes "core")) compiling (cond (bytes_eq word (codes "save")) saving (cond (bytes_eq word (codes "certify")) certifying other)))

abbrev pub saved_line : (lib : List ℕ) → List ℕ
saved_line lib = joined (codes "saved " ∷ lib ∷ codes "\n" ∷ [])

abbrev pub certified_line : (cert : List ℕ) → (decls lines : ℕ) → List ℕ
certified_line cert decls lines =
    joined (codes "certified " ∷ cert ∷ codes ": declarations " ∷ decimal decls ∷ codes " lines " ∷ decimal lines ∷ codes "\n" ∷ [])

-- what is written behind the count of lines
abbrev pub Behind : Kind → List ℕ → Type 0
Behind compiling t = t ≡ []
Behind saving t = (lib : List ℕ) × (t ≡ saved_line lib)
Behind certifying t = (cert : List ℕ) × (decls : ℕ) × (lines : ℕ) × (t ≡ certified_line cert decls lines)
Behind other t = Unit {0}

-- all was done and told, then the number of lines, and then what the first word asks for
pub record IsWhole (k : Kind) (F : List ℕ → Told) (A : Agenda) (a b : Point) : Type 0 where
  pub done : Point
  pub accepted : IsAccepted F A a done
  pub state : b.state ≡ done.state
  pub last : List ℕ
  pub behind : Behind k last
  pub out : b.out ≡ grown done.out last

-- the line of a file that was saved is written, or nothing is where the depot failed
abbrev pub Saves : (out out' : Option (List ℕ)) → (line : List ℕ) → Result (Unit {0}) Stop → Type 0
Saves out out' line (Ok x) = out' ≡ grown out line
Saves out out' line (Err (Refused r)) = ⊥
Saves out out' line (Err (SourceFault i)) = out' ≡ out
Saves out out' line (Err SinkFault) = Unit {0}
Saves out out' line (Err NoMemory) = Unit {0}

-- the line of a certificate is written, or nothing is where there is none
abbrev pub Certifies : (out out' : Option (List ℕ)) → (cert : List ℕ) → Result (Unit {0}) Stop → Type 0
Certifies out out' cert (Ok x) = (decls : ℕ) × (lines : ℕ) × (out' ≡ grown out (certified_line cert decls lines))
Certifies out out' cert (Err (Refused r)) = out' ≡ out
Certifies out out' cert (Err (SourceFault i)) = out' ≡ out
Certifies out out' cert (Err SinkFault) = Unit {0}
Certifies out out' cert (Err NoMemory) = Unit {0}

-- a run did a part of what was to be done, or all and told the number of lines too
abbrev pub GoesOrAccepts : (F : List ℕ → Told) → Agenda → (a b : Point) → Type 0
GoesOrAccepts F A a b = GoesPart F A a b ⊎ IsAccepted F A a b

abbrev pub Stopped : (F : List ℕ → Told) → Agenda → (a b : Point) → Stop → Type 0
Stopped F A a b (Refused r) = GoesOrAccepts F A a b
Stopped F A a b (SourceFault i) = GoesOrAccepts F A a b
Stopped F A a b SinkFault = Unit {0}
Stopped F A a b NoMemory = Unit {0}

abbrev pub WorksOut : Kind → (F : List ℕ → Told) → Agenda → (a b : Point) → Result (Unit {0}) Stop → Type 0
WorksOut k F A a b (Ok x) = IsWhole k F A a b
WorksOut k F A a b (Err stop) = Stopped F A a b stop

-- what is told of the work of a row, up to its end
abbrev pub Works : Kind → (F : List ℕ → Told) → Agenda → (a b : Point) → Result (Unit {0}) Stop → Type 0
Works other F A a b r = Unit {0}
Works k F A a b r = WorksOut k F A a b r

-- a run went so far, and its last line tells why it stopped there
pub record IsCut (F : List ℕ → Told) (A : Agenda) (a : Point) (S : State) (out' : Option (List ℕ)) (end : Status) : Type 0 where
  pub last : Point
  pub went : GoesOrAccepts F A a last
  pub state : last.state ≡ S
  pub stop : Stop
  pub told : IsToldIn S stop last.out out' end

-- a run that was done whole, with this session and this in the sink
pub record IsDone (k : Kind) (F : List ℕ → Told) (A : Agenda) (a : Point) (S : State) (out' : Option (List ℕ)) : Type 0 where
  pub end : Point
  pub whole : IsWhole k F A a end
  pub state : end.state ≡ S
  pub out : out' ≡ end.out

abbrev pub Reports : Kind → (F : List ℕ → Told) → Agenda → (a : Point) → State → (out' : Option (List ℕ)) → Status → Type 0
Reports k F A a S out' status.Done = IsDone k F A a S out'
Reports k F A a S out' status.Refused = IsCut F A a S out' status.Refused
Reports k F A a S out' status.Spent = IsCut F A a S out' status.Spent
Reports k F A a S out' status.SourceFault = IsCut F A a S out' status.SourceFault
Reports k F A a S out' _ = Unit {0}

abbrev pub HasReported : Kind → (F : List ℕ → Told) → Agenda → (a : Point) → State → (out' : Option (List ℕ)) → Status → Type 0
HasReported other F A a S out' s = Unit {0}
HasReported k F A a S out' s = Reports k F A a S out' s

-- a job that writes a line for each command
abbrev pub is_aloud : Job → Bool
is_aloud (jobs.Compile steps rocq listing files) = true
is_aloud (jobs.Save steps lib files) = true
is_aloud (jobs.Core steps file) = true
is_aloud (jobs.Certify steps cert files) = true
is_aloud _ = false

-- an empty session, before anything is written
abbrev pub beginning : (out : Option (List ℕ)) → Point
beginning out = record { state = nothing; lines = 0; out = out }

-- what a run reports of the job that its words ask for, where its files held this
pub record ReportsJob (words : List (List ℕ)) (F : List ℕ → Told) (a : Point) (S : State) (out' : Option (List ℕ)) (s : Status) : Type 0 where
  pub job : Job
  pub asked : AsksFor words job
  pub reported : HasReported (asked_by (word_of job)) F (agenda_of job) a S out' s

-- what a run reports, whose words may ask for nothing, or memory may be wanting
abbrev pub ReportsFrom : (words : List (List ℕ)) → (F : List ℕ → Told) → (a : Point) → State → (out' : Option (List ℕ)) → Status → Type 0
ReportsFrom words F a S out' status.Usage = Unit {0}
ReportsFrom words F a S out' status.SinkFault = Unit {0}
ReportsFrom words F a S out' status.NoMemory = Unit {0}
ReportsFrom words F a S out' s = ReportsJob words F a S out' s
