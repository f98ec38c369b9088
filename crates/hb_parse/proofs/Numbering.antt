-- A numbering of the names of a session: the place of each.
use Rattle.std.proofs.Common.{◌≡◌, ℕ, ◌+◌, zero, suc, Bool, true, false, cond, List, [], ◌∷◌, Some, refl, sym, ap, ◌∙◌, arith, slice_get}
use Rattle.std.specs.Str.{bytes_eq}
use Rattle.std.proofs.lemmas.Slice.Eq.{bytes_eq-Decides}
use Rattle.hb_base.specs.Names.{NumbersAreUnique}
use Rattle.hb_parse.specs.Signs.{NumberingExists}

place_in : List (List ℕ) → List ℕ → ℕ
place_in [] text = 0
place_in (n ∷ ns) text = cond (bytes_eq text n) 0 (suc (place_in ns text))

tail_unique : (x : List ℕ) (xs : List (List ℕ)) → NumbersAreUnique (x ∷ xs) → NumbersAreUnique xs
tail_unique x xs unique t i j h k = let e : suc i ≡ suc j = unique t (suc i) (suc j) h k in omega arith

placed : (xs : List (List ℕ)) (t : List ℕ) (i : ℕ) → slice_get xs i ≡ Some t → NumbersAreUnique xs → place_in xs t ≡ i
unfolding place_in
placed [] t i h unique = absurd (cc)
placed (x ∷ xs) t zero h unique =
    let e : t ≡ x = cc in let b : bytes_eq t x ≡ true = (bytes_eq-Decides t x).1 e in rw b refl
placed (x ∷ xs) t (suc i) h unique =
    here (bytes_eq t x) refl (placed xs t i h (tail_unique x xs unique))
  where
    here : (b : Bool) → bytes_eq t x ≡ b → place_in xs t ≡ i → cond (bytes_eq t x) 0 (suc (place_in xs t)) ≡ suc i
    here true e later =
        let same : t ≡ x = (bytes_eq-Decides t x).0 e in
        let first : slice_get (x ∷ xs) 0 ≡ Some t = ap Some (sym same) in
        let no : 0 ≡ suc i = unique t 0 (suc i) first h in absurd (cc)
    here false e later = rw (e, later) refl

pub numbering_exists : NumberingExists
numbering_exists names unique = (λ text. record { 0 = place_in names text }, λ text i h. ap (λ n. record { 0 = n }) (placed names text i h unique))
