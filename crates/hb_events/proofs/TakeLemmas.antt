-- The first members of lists.
use Rattle.std.proofs.Common.{◌≡◌, ◌≤◌, ℕ, List, length, take, sym}
use Rattle.std.proofs.lemmas.List.{take_all}

-- a list that isn't longer is its own front
pub own_front : {A : Type 0} (n : ℕ) (l : List A) → length l ≤ n → l ≡ take n l
own_front n l fits = sym (take_all n l fits)
