-- Names that are held.
use Rattle.std.specs.Prelude.{◌≡◌, ℕ, List, ◌++◌}

-- the names that are held stay, with their numbers
abbrev pub Extends : List (List ℕ) → List (List ℕ) → Type 0
Extends old new = (more : List (List ℕ)) × (new ≡ old ++ more)
