-- Written levels.
use Rattle.std.specs.Prelude.{ℕ, ◌+◌, ◌-◌, ◌*◌, min, List, fold}

abbrev pub number_of : List ℕ → ℕ
number_of digits = fold (λ n b. 10 * n + (b - 48)) 0 digits

-- a written level: its number, or 64 for each that is above 63
abbrev pub level_of : List ℕ → ℕ
level_of digits = min 64 (number_of digits)
