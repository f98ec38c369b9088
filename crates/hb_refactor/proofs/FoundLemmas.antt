-- Numbers of texts.
use Rattle.std.proofs.Common.{◌≡◌, ◌↔◌, ℕ, ◌<◌, Bool, true, false, List, Option, Some, None, refl, ap, sym, ◌∙◌, slice_get, get_or, length, IfSome, IsSome, IsTrue, option_map, arith}
use Rattle.std.specs.List.{position}
use Rattle.std.specs.Str.{bytes_eq}
use Rattle.std.proofs.lemmas.Option.{slice_get-get_or, get_or_from_slice_get, slice_get_within}
use Rattle.std.proofs.lemmas.List.Quantifiers.{position-Some}
use Rattle.std.proofs.lemmas.Slice.Eq.{bytes_eq-Decides}
use Rattle.hb_base.specs.Names.{is_named, NumbersAreUnique}
use Rattle.hb_base.specs.declared.name_id.NameId.{NameId}
use Rattle.hb_base.proofs.NamesLemmas.{named_at}
use Rattle.hb_hier.proofs.PlaceLemmas.{position-found}
use Rattle.hb_refactor.specs.Keeping.{number_in}

not_true : (b : Bool) → (b ≡ true → ⊥) → b ≡ false
not_true true h = absurd (h refl)
not_true false h = refl

-- the one place of a text is the first
number_found : (N : List (List ℕ)) (t : List ℕ) (i : ℕ) → NumbersAreUnique N → slice_get N i ≡ Some t → position (bytes_eq t) N ≡ Some i
number_found N t i unique at =
    let within : i < length N = slice_get_within N i t at in
    let here : bytes_eq t (get_or N i t) ≡ true = (bytes_eq-Decides t (get_or N i t)).1 (sym (get_or_from_slice_get N i t t at)) in
    position-found (bytes_eq t) N t i within here (λ k h. not_true (bytes_eq t (get_or N k t)) (λ e.
    let same : t ≡ get_or N k t = (bytes_eq-Decides t (get_or N k t)).0 e in
    let there : slice_get N k ≡ Some t = slice_get-get_or N k t (omega (arith, h, within)) ∙ ap Some (sym same) in
    let j : k ≡ i = unique t k i there at in
    absurd (omega (arith, j, h))))

none_found : (N : List (List ℕ)) (t : List ℕ) (o : Option ℕ) → position (bytes_eq t) N ≡ o → is_named N t ≡ false → o ≡ None
none_found N t None e h = refl
none_found N t (Some i) e h =
    let found = position-Some (bytes_eq t) N i t e in
    let same : t ≡ get_or N i t = (bytes_eq-Decides t (get_or N i t)).0 found.1 in
    let there : slice_get N i ≡ Some t = slice_get-get_or N i t found.0 ∙ ap Some (sym same) in
    let named : is_named N t ≡ true = named_at N t i there in
    absurd (cc)

no_none : IsSome {T = NameId} None → ⊥
no_none h = absurd (cc)

-- what a look-up of a text answers
pub number_is : (N : List (List ℕ)) (t : List ℕ) (r : Option NameId) → IfSome r (λ id. slice_get N id.0 ≡ Some t) → (IsSome r ↔ IsTrue (is_named N t)) → NumbersAreUnique N → r ≡ number_in N (Some t)
number_is N t (Some id) h n u = sym (ap (option_map (λ (i : ℕ). record { 0 = i })) (number_found N t id.0 u h))
number_is N t None h n u =
    sym (ap (option_map (λ (i : ℕ). record { 0 = i })) (none_found N t (position (bytes_eq t) N) refl (not_true (is_named N t) (λ e. no_none (n.1 e)))))
