-- What emitters write, and when they have failed.
use Rattle.std.specs.Prelude.{◌≡◌, ℕ, ◌≤◌, Bool, true, false, List, Option, Result, Ok, Err, take, codes}
use Rattle.hb_emit.specs.declared.fault.EmitFault.{EmitFault}
use Rattle.hb_emit.specs.declared.fault.EmitFault.TheVariants.{Failed, NoMemory}
use Rattle.hb_io.specs.Causes.{Rose}
use Rattle.hb_io.specs.Told.{grown}
use Rattle.hb_writer.specs.declared.kind.Kind.{Kind}
use Rattle.hb_writer.specs.declared.kind.Kind.TheVariants.{Rocq, Listing}

-- the last line of a text of the kind
abbrev pub last_line : Kind → List ℕ
last_line Rocq = codes "(* end *)\n"
last_line Listing = codes "end\n"

-- a front of the piece has been written
pub record GrewByPart (before after : Option (List ℕ)) (piece : List ℕ) : Type 0 where
  pub count : ℕ
  pub front : after ≡ grown before (take count piece)

-- whether an emitter has failed after an answer, where it hadn't before
abbrev pub FailsNow : {T : Type 0} → Result T EmitFault → Bool → Type 0
FailsNow (Ok x) failed = failed ≡ false
FailsNow (Err NoMemory) failed = failed ≡ false
FailsNow (Err Failed) failed = failed ≡ true

-- the count of faults never falls; Failed comes only where it rose
abbrev pub FailsWhere : {T : Type 0} → (before now : ℕ) → Result T EmitFault → Type 0
FailsWhere before now (Ok x) = before ≤ now
FailsWhere before now (Err NoMemory) = before ≤ now
FailsWhere before now (Err Failed) = (before ≤ now) × Rose before now
