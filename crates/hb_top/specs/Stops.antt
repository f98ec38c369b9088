-- Why a run ends early, by the devices.
use Rattle.std.specs.Prelude.{◌≡◌, ℕ, List}
use Rattle.hb_env.specs.declared.refusal.What.{What}
use Rattle.hb_env.specs.declared.refusal.What.TheVariants as what
use Rattle.hb_io.specs.Told.{Told}
use Rattle.hb_top.specs.declared.stop.Stop.{Stop}
use Rattle.hb_top.specs.declared.stop.Stop.TheVariants.{Refused, SourceFault, SinkFault, NoMemory}

-- what is printed of a refusal: out of memory is told apart
abbrev pub IsPrinted : What → Type 0
IsPrinted what.NoMemory = ⊥
IsPrinted _ = Unit {0}

-- a refusal that ends the work is one that is printed
abbrev pub IsTellable : Stop → Type 0
IsTellable (Refused r) = IsPrinted r.what
IsTellable _ = Unit {0}

-- the depot failed
abbrev pub IsSourceFault : Stop → Type 0
IsSourceFault (SourceFault i) = Unit {0}
IsSourceFault _ = ⊥

-- the sink failed, or memory was wanting
abbrev pub IsOfSink : Stop → Type 0
IsOfSink SinkFault = Unit {0}
IsOfSink NoMemory = Unit {0}
IsOfSink _ = ⊥

-- no device failed, and what is refused is printed
abbrev pub IsInner : Stop → Type 0
IsInner (Refused r) = IsPrinted r.what
IsInner (SourceFault i) = ⊥
IsInner SinkFault = ⊥
IsInner NoMemory = Unit {0}

-- no file has other bytes
abbrev pub FilesStay : (before after : List ℕ → Told) → Type 0
FilesStay before after = (n : List ℕ) → after n ≡ before n
