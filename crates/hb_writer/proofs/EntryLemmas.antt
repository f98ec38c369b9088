-- Texts that are written part by part.
use Rattle.std.proofs.Common.{◌≡◌, ℕ, ◌+◌, ◌<◌, List, [], ◌∷◌, ◌++◌, length, drop, get_or, refl, ap, sym, ◌∙◌, append_assoc}
use Rattle.std.proofs.lemmas.List.{drop_more}

-- one part more: what is written, with what is still to be written, stays the whole
pub part_more : {X : Type 0} (F G : List X → List ℕ) (xs : List X) (at : ℕ) (x : X) (piece out out' all : List ℕ)
    → at < length xs → x ≡ get_or xs at x → F (x ∷ drop (at + 1) xs) ≡ piece ++ G (drop (at + 1) xs) → out' ≡ out ++ piece
    → out ++ F (drop at xs) ≡ all → out' ++ G (drop (at + 1) xs) ≡ all
part_more F G xs at x piece out out' all h g f b inv =
    let rest = drop (at + 1) xs in
    let e : drop at xs ≡ x ∷ rest = drop_more xs at x h ∙ ap (λ y. y ∷ rest) (sym g) in
    ap (λ o. o ++ G rest) b ∙ append_assoc out piece (G rest) ∙ ap (λ l. out ++ l) (sym f) ∙ ap (λ l. out ++ F l) (sym e) ∙ inv
