-- Type formers with their arguments.
use Rattle.std.specs.Prelude.{◌≡◌, ℕ, ◌≤◌, List, [], ◌∷◌, length}
use Rattle.hb_tree.specs.Tree.{Tree, loose, head_of, args_of}
use Rattle.hb_calculus.specs.Telescopes.{former}

-- the former of the record at the place r with n arguments
abbrev pub IsApplied : ℕ → ℕ → Tree → Type 0
IsApplied r n t = (head_of t ≡ former r) × (length (args_of t) ≡ n)

-- no variable of the terms is past n
abbrev pub AreLoose : ℕ → List Tree → Type 0
AreLoose n [] = Unit {0}
AreLoose n (t ∷ ts) = (loose t ≤ n) × AreLoose n ts
