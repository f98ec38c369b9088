-- Lists that differ at a place.
use Rattle.std.proofs.Common.{◌≡◌, ◌↔◌, ℕ, ◌<◌, Bool, false, true, IsTrue, List, map, length, get_or, slice_get, Some, ap, sym, ◌∙◌}
use Rattle.std.proofs.lemmas.List.{get_or-map, length-map}
use Rattle.std.proofs.lemmas.Option.{slice_get-get_or}

no : false ≡ true → ⊥
no e = cc

-- what a test that answers false says
pub apart : (P : Type 0) (b : Bool) → (IsTrue b ↔ P) → b ≡ false → ¬ P
apart P b h e p = no (sym e ∙ h.1 p)

pub not_so : (P : Type 0) → ¬ P → (IsTrue false ↔ P)
not_so P n = ((λ f. absurd (no f)), (λ p. absurd (n p)))

mapped_at : {X Y : Type 0} (f : X → Y) (xs : List X) (i : ℕ) (x : X) → i < length xs → x ≡ get_or xs i x → slice_get (map f xs) i ≡ Some (f x)
mapped_at f xs i x lt e = slice_get-get_or (map f xs) i (f x) (rw length-map lt) ∙ ap Some (get_or-map f xs i x (f x) lt ∙ ap f (sym e))

pub other_at :
    {X Y : Type 0} (f : X → Y) (xs ys : List X) (i : ℕ) (x y : X) → i < length xs → i < length ys
    → x ≡ get_or xs i x → y ≡ get_or ys i y → ¬ (f x ≡ f y) → ¬ (slice_get (map f xs) i ≡ slice_get (map f ys) i)
other_at f xs ys i x y l m d e n h =
    let s : Some (f x) ≡ Some (f y) = sym (mapped_at f xs i x l d) ∙ h ∙ mapped_at f ys i y m e in
    n cc

pub others :
    {X Y : Type 0} (f : X → Y) (xs ys : List X) (i : ℕ) (x y : X) → i < length xs → i < length ys
    → x ≡ get_or xs i x → y ≡ get_or ys i y → ¬ (f x ≡ f y) → ¬ (map f xs ≡ map f ys)
others f xs ys i x y l m d e n h = other_at f xs ys i x y l m d e n (ap (λ zs. slice_get zs i) h)
