-- The names of a session: a list of different texts. The number of a name is its place in the list.
use Rattle.std.specs.Prelude.{◌≡◌, ℕ, Bool, List, [], ◌∷◌, ◌++◌, Option, Some, if◌then◌else◌, slice_get}
use Rattle.std.specs.List.{list_any}
use Rattle.std.specs.Str.{bytes_eq}

-- the text is among the names
abbrev pub is_named : List (List ℕ) → List ℕ → Bool
is_named names text = list_any (bytes_eq text) names

-- the names after the text is numbered: it goes last where it is new
abbrev pub with_name : List (List ℕ) → List ℕ → List (List ℕ)
with_name names text = if is_named names text then names else names ++ text ∷ []

-- The law: no text has two numbers.
abbrev pub NumbersAreUnique : List (List ℕ) → Type 0
NumbersAreUnique names =
    (text : List ℕ) (i j : ℕ) → slice_get names i ≡ Some text → slice_get names j ≡ Some text → i ≡ j
