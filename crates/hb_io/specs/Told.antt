-- What a device tells of its bytes, and what a call on it does to them.
use Rattle.std.specs.Prelude.{◌≡◌, ℕ, ◌<◌, ◌≤◌, ◌++◌, List, Option, None, Some, Result, Ok, Err, length, take, drop}
use Rattle.hb_io.specs.declared.faults.DepotFault.{DepotFault}
use Rattle.hb_io.specs.declared.faults.DepotFault.TheVariants.{Absent, Failed, NoMemory}

-- what a depot tells of a name: nothing, that there is no such file, or the file's bytes
pub data Told : Type 0 where
  Untold : Told
  Missing : Told
  Holds : (bytes : List ℕ) → Told

-- the first `count` bytes of the buffer are the file's from `place`; none only at the file's end
pub record IsPiece (bytes : List ℕ) (place count : ℕ) (buffer : List ℕ) : Type 0 where
  pub within : count ≤ length buffer
  pub fits : count ≤ length (drop place bytes)
  pub piece : take count buffer ≡ take count (drop place bytes)
  pub moves : 0 < length buffer → place < length bytes → 0 < count

-- what a read at a place may answer, and leave in the buffer, by what is told of the file
abbrev pub ReadGives : Told → (place : ℕ) → Result ℕ DepotFault → (buffer : List ℕ) → Type 0
ReadGives Untold place result buffer = Unit {0}
ReadGives Missing place (Ok count) buffer = ⊥
ReadGives Missing place (Err fault) buffer = Unit {0}
ReadGives (Holds bytes) place (Ok count) buffer = IsPiece bytes place count buffer
ReadGives (Holds bytes) place (Err Absent) buffer = ⊥
ReadGives (Holds bytes) place (Err Failed) buffer = Unit {0}
ReadGives (Holds bytes) place (Err NoMemory) buffer = Unit {0}

-- where something is told of the file, it holds just these bytes
abbrev pub TellsOnly : Told → List ℕ → Type 0
TellsOnly Untold bytes = Unit {0}
TellsOnly Missing bytes = ⊥
TellsOnly (Holds held) bytes = held ≡ bytes

-- a sink's bytes after a piece more, where they are told
abbrev pub grown : Option (List ℕ) → List ℕ → Option (List ℕ)
grown None piece = None
grown (Some bytes) piece = Some (bytes ++ piece)

-- only a proper front of the piece has gone out
pub record GrewByFront (before after : Option (List ℕ)) (piece : List ℕ) : Type 0 where
  pub count : ℕ
  pub proper : count < length piece
  pub front : after ≡ grown before (take count piece)
