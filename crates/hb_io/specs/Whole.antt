-- What reading a file to its end answers.
use Rattle.std.specs.Prelude.{◌≡◌, ◌≢◌, ◌<◌, ◌≤◌, ℕ, Bool, true, false, List, Result, Ok, Err, length, take}
use Rattle.hb_io.specs.declared.faults.DepotFault.{DepotFault}
use Rattle.hb_io.specs.declared.faults.DepotFault.TheVariants.{Absent, Failed, NoMemory}
use Rattle.hb_io.specs.declared.whole.Whole.{Whole}
use Rattle.hb_io.specs.declared.whole.Whole.TheVariants.{Bytes, TooLong}
use Rattle.hb_io.specs.Told.{Told, Untold, Missing, Holds}

-- by what is told of the file: its bytes where there are at most so many, and else that there are more
abbrev pub WholeGives : Told → (most : ℕ) → Result Whole DepotFault → Type 0
WholeGives Untold most (Ok (Bytes read)) = length read.items ≤ most
WholeGives Untold most (Ok TooLong) = Unit {0}
WholeGives Untold most (Err fault) = Unit {0}
WholeGives Missing most (Ok whole) = ⊥
WholeGives Missing most (Err fault) = Unit {0}
WholeGives (Holds bytes) most (Ok (Bytes read)) = (read.items ≡ bytes) × (length bytes ≤ most)
WholeGives (Holds bytes) most (Ok TooLong) = most < length bytes
WholeGives (Holds bytes) most (Err Absent) = ⊥
WholeGives (Holds bytes) most (Err Failed) = Unit {0}
WholeGives (Holds bytes) most (Err NoMemory) = Unit {0}

-- the bytes are a front of what is told of the file
abbrev pub IsFront : Told → (front : List ℕ) → Type 0
IsFront Untold front = Unit {0}
IsFront Missing front = Unit {0}
IsFront (Holds bytes) front = front ≡ take (length front) bytes

-- the bytes are all that is told of the file
abbrev pub IsAll : Told → (front : List ℕ) → Type 0
IsAll Untold front = Unit {0}
IsAll Missing front = ⊥
IsAll (Holds bytes) front = front ≡ bytes

-- one read behind a front of a file makes it longer (`Ok true`), or finds that the file ends there
pub record ReadsOn (told : Told) (front front' : List ℕ) (result : Result Bool DepotFault) : Type 0 where
  pub still : IsFront told front → IsFront told front'
  pub longer : result ≡ Ok true → length front < length front'
  pub told_of : result ≡ Ok true → told ≢ Missing
  pub same : result ≡ Ok false → front' ≡ front
  pub ended : result ≡ Ok false → IsFront told front → IsAll told front
  pub absent : (bytes : List ℕ) → told ≡ Holds bytes → result ≢ Err Absent
