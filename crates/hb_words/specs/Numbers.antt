-- Numbers on the command line.
use Rattle.std.specs.Prelude.{◌≡◌, ◌≢◌, ℕ, ◌+◌, ◌-◌, ◌*◌, ◌≤◌, List, [], ◌∷◌, fold}

abbrev pub IsDigit : ℕ → Type 0
IsDigit b = (48 ≤ b) × (b ≤ 57)

abbrev pub AreDigits : List ℕ → Type 0
AreDigits [] = Unit {0}
AreDigits (b ∷ bs) = IsDigit b × AreDigits bs

-- a number with one more digit
abbrev pub longer : ℕ → ℕ → ℕ
longer n b = n * 10 + (b - 48)

-- the number that digits write
abbrev pub value : List ℕ → ℕ
value digits = fold longer 0 digits

-- the text is digits, at least one, and writes the number
pub record IsNumber (text : List ℕ) (n : ℕ) : Type 0 where
  pub some : text ≢ []
  pub digits : AreDigits text
  pub value_is : n ≡ value text
