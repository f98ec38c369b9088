-- How the report ends.
use Rattle.std.specs.Prelude.{◌≡◌, ◌⊎◌, ℕ, Bool, true, false, List, [], ◌∷◌, Option, Some, None, take, codes}
use Rattle.hb_calculus.specs.Declarations.{Decl}
use Rattle.hb_env.specs.declared.refusal.What.{What}
use Rattle.hb_env.specs.declared.refusal.What.TheVariants as what
use Rattle.hb_io.specs.Told.{grown, GrewByFront}
use Rattle.hb_report.specs.Lines.{event_line, refusal_line}
use Rattle.hb_writer.specs.Text.{joined}
use Rattle.hb_session.specs.State.{State}
use Rattle.hb_top.specs.Stops.{IsTellable}
use Rattle.hb_top.specs.declared.stop.Stop.{Stop}
use Rattle.hb_top.specs.declared.stop.Stop.TheVariants.{Refused, SourceFault, SinkFault, NoMemory}
use Rattle.hb_top.specs.declared.status.Status.{Status}
use Rattle.hb_top.specs.declared.status.Status.TheVariants as status

-- the status of a refusal: a spent budget has its own
abbrev pub refused_status : What → Status
refused_status (what.Spent t) = status.Spent
refused_status what.Moves = status.Spent
refused_status _ = status.Refused

-- the status of a run that ended early
abbrev pub status_of : Stop → Status
status_of (Refused r) = refused_status r.what
status_of (SourceFault i) = status.SourceFault
status_of SinkFault = status.SinkFault
status_of NoMemory = status.NoMemory

-- a status that a run which ended early may have
abbrev pub is_early : Status → Bool
is_early status.Done = false
is_early status.Usage = false
is_early status.EmitLost = false
is_early _ = true

abbrev pub fault_line : List ℕ → List ℕ
fault_line file = event_line (codes "fault") file

-- the last line of a run that ended early, if it has one: with these names and declarations, of this file
abbrev pub last_line : List (List ℕ) → List Decl → (file : List ℕ) → Stop → Option (List ℕ)
last_line N E file (Refused r) = Some (refusal_line N E file r.span r.what)
last_line N E file (SourceFault i) = Some (fault_line file)
last_line N E file SinkFault = None
last_line N E file NoMemory = None

-- A text is written at the end, under the wanted status: a sink's fault, and want of memory, leave a front.
abbrev pub EndsWith : List ℕ → Status → (out out' : Option (List ℕ)) → Status → Type 0
EndsWith text wanted out out' status.SinkFault = GrewByFront out out' text
EndsWith text wanted out out' status.NoMemory = (n : ℕ) × (out' ≡ grown out (take n text))
EndsWith text wanted out out' s = (s ≡ wanted) × (out' ≡ grown out text)

abbrev pub Finishes : Option (List ℕ) → Status → (out out' : Option (List ℕ)) → Status → Type 0
Finishes None wanted out out' s = (out' ≡ out) × (s ≡ wanted)
Finishes (Some text) wanted out out' s = EndsWith text wanted out out' s

-- the run stopped so, for a cause that is printed, and its last line was written behind what the sink held
pub record StopIsTold (stop : Stop) (out out' : Option (List ℕ)) (end : Status) : Type 0 where
  pub printed : IsTellable stop
  pub names : List (List ℕ)
  pub env : List Decl
  pub file : List ℕ
  pub finishes : Finishes (last_line names env file stop) (status_of stop) out out' end

-- the run stopped so in this session, for a cause that is printed, and its last line was written behind what the sink held
pub record IsToldIn (S : State) (stop : Stop) (out out' : Option (List ℕ)) (end : Status) : Type 0 where
  pub printed : IsTellable stop
  pub file : List ℕ
  pub finishes : Finishes (last_line S.back.names S.env file stop) (status_of stop) out out' end

abbrev pub usage_text : List ℕ
usage_text =
    joined (codes "usage: hbc compile [--steps N] [--rocq OUT] [--listing OUT] FILE..\n" ∷ codes "       hbc save [--steps N] LIB FILE..\n" ∷ codes "       hbc core [--steps N] FILE\n" ∷ codes "       hbc refactor [--steps N] OLD NEW [CLIENT..]\n" ∷ codes "       hbc sample NUMBER SIZE\n" ∷ codes "       hbc show FILE\n" ∷ codes "       hbc certify [--steps N] CERT FILE..\n" ∷ codes "       hbc verify CERT\n" ∷ [])

-- a status that is told by a last text
abbrev pub IsTold : Status → Type 0
IsTold status.SinkFault = ⊥
IsTold status.NoMemory = ⊥
IsTold _ = Unit {0}

-- what a run answers after its work came to a status: that, or that texts were lost where it was done, which a
-- line tells, or out of memory
abbrev pub IsEndOf : Status → (out out' : Option (List ℕ)) → Status → Type 0
IsEndOf was out out' status.NoMemory = Unit {0}
IsEndOf was out out' status.EmitLost = was ≡ status.Done
IsEndOf was out out' status.SinkFault = (was ≡ status.SinkFault) ⊎ (was ≡ status.Done)
IsEndOf was out out' s = (was ≡ s) × (out' ≡ out)

-- a status of an early end has its cause told in the last line
abbrev pub StopTold : (out' : Option (List ℕ)) → Status → Type 0
StopTold out' s = (stop : Stop) × (mid : Option (List ℕ)) × StopIsTold stop mid out' s

-- what a job's work comes to, before the emitters' texts are ended
abbrev pub IsWork : (out' : Option (List ℕ)) → Status → Type 0
IsWork out' status.Refused = StopTold out' status.Refused
IsWork out' status.Spent = StopTold out' status.Spent
IsWork out' status.SourceFault = StopTold out' status.SourceFault
IsWork out' status.Usage = ⊥
IsWork out' status.EmitLost = ⊥
IsWork out' _ = Unit {0}

-- what a run answers: the usage text where the words ask for nothing, an early end with its line
abbrev pub IsOutcome : (out out' : Option (List ℕ)) → Status → Type 0
IsOutcome out out' status.Usage = out' ≡ grown out usage_text
IsOutcome out out' status.Refused = StopTold out' status.Refused
IsOutcome out out' status.Spent = StopTold out' status.Spent
IsOutcome out out' status.SourceFault = StopTold out' status.SourceFault
IsOutcome out out' _ = Unit {0}
