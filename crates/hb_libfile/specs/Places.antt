-- Where bytes are refused.
use Rattle.std.specs.Prelude.{◌≡◌, ℕ, ◌≤◌, List, ◌++◌}
use Rattle.hb_libfile.specs.declared.error.LibRefused.{LibRefused}
use Rattle.hb_libfile.specs.declared.error.LibRefused.TheVariants.{BadLibrary, TooMany, NoMemory}

-- the place is one of a file of so many bytes, or its end
abbrev pub StandsIn : ℕ → LibRefused → Type 0
StandsIn n (BadLibrary at) = at ≤ n
StandsIn n (TooMany at) = at ≤ n
StandsIn n NoMemory = Unit {0}

-- the names that are held stay, with their numbers
abbrev pub Extends : List (List ℕ) → List (List ℕ) → Type 0
Extends old new = (more : List (List ℕ)) × (new ≡ old ++ more)
