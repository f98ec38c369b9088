-- Lemmas on specs/Marks.antt: a name has a point where the first one is inside it.
use Rattle.std.proofs.Common.{◌≡◌, Bool, true, false, ltb, List, [], ◌∷◌, length, refl, arith}
use Rattle.std.specs.List.{list_any, position_or_len}

pub point_inside : {X : Type 0} (p : X → Bool) (xs : List X) → list_any p xs ≡ ltb (position_or_len p xs) (length xs)
point_inside p [] = refl
point_inside p (x ∷ xs) = here (p x) refl (point_inside p xs)
  where
    here : (b : Bool) → p x ≡ b → list_any p xs ≡ ltb (position_or_len p xs) (length xs) → list_any p (x ∷ xs) ≡ ltb (position_or_len p (x ∷ xs)) (length (x ∷ xs))
    here true e i = grind (arith, e)
    here false e i = rw e (grind (arith, i))
