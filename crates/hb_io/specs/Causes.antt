-- Why a device gave no answer: a count of its faults, which never falls, has risen in the call.
use Rattle.std.specs.Prelude.{ℕ, ◌+◌, ◌-◌, ◌^◌, ◌≤◌, min, Result, IsErrOf}
use Rattle.hb_io.specs.declared.faults.DepotFault.{DepotFault}
use Rattle.hb_io.specs.declared.faults.DepotFault.TheVariants.{Failed, Absent}
use Rattle.hb_io.specs.declared.faults.SinkFault.{SinkFault}
use Rattle.hb_io.specs.declared.faults.SinkFault.TheVariants as sink

-- the count has risen, or stands at the end of its type
abbrev pub Rose : (before now : ℕ) → Type 0
Rose before now = min (before + 1) (2 ^ 64 - 1) ≤ now

-- a depot's counts never fall; Failed comes only where `faults` rose, Absent only where `absents` did
pub record DepotCause {T : Type 0} (faults faults' absents absents' : ℕ) (result : Result T DepotFault) : Type 0 where
  pub faults_later : faults ≤ faults'
  pub absents_later : absents ≤ absents'
  pub failed : IsErrOf result Failed → Rose faults faults'
  pub absent : IsErrOf result Absent → Rose absents absents'

-- a sink's count never falls; Failed comes only where it rose
pub record SinkCause {T : Type 0} (faults faults' : ℕ) (result : Result T SinkFault) : Type 0 where
  pub later : faults ≤ faults'
  pub failed : IsErrOf result sink.Failed → Rose faults faults'
