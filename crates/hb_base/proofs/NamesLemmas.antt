-- Lemmas on specs/Names.antt: a text that is new keeps numbers unique.
use Rattle.std.proofs.Common.{length-append, if◌then◌else◌, is_some, ◌≤◌, ◌<◌, ◌≡◌, ◌⊎◌, ℕ, Bool, true, false, List, [], ◌∷◌, ◌++◌, Option, Some, None, refl, ap, sym, ◌∙◌, inl, inr, arith, slice_get, get_or, length, map, rules, IfSome, zero, suc, ◌+◌, ◌||◌}
use Rattle.std.specs.List.{list_any, position}
use Rattle.std.specs.Option.{option_map}
use Rattle.std.specs.Str.{bytes_eq}
use Rattle.std.proofs.lemmas.List.{length-map}
use Rattle.indexmap.specs.IndexSet.{insert_key}
use Rattle.std.proofs.lemmas.Option.{slice_get-map, slice_get-get_or}
use Rattle.std.proofs.lemmas.List.Quantifiers.{position-Some}
use Rattle.std.proofs.lemmas.Slice.Eq.{bytes_eq-Decides}
use Rattle.hb_base.specs.Names.{is_named, NumbersAreUnique}

-- an element of a list with one more at its end is one of the list, or that one
pub last_cases : {X : Type 0} (xs : List X) (x y : X) (i : ℕ) → slice_get (xs ++ x ∷ []) i ≡ Some y → (slice_get xs i ≡ Some y) ⊎ ((i ≡ length xs) × (x ≡ y))
last_cases [] x y zero h = inr (refl, cc)
last_cases [] x y (suc i) h = absurd (cc)
last_cases (z ∷ zs) x y zero h = inl h
last_cases (z ∷ zs) x y (suc i) h =
    elim (last_cases zs x y i h) [ inl e ↦ inl e | inr p ↦ inr (omega (arith, p.0), p.1) ]

-- a text that has a number is named
pub named_at : (names : List (List ℕ)) (text : List ℕ) (i : ℕ) → slice_get names i ≡ Some text → is_named names text ≡ true
named_at [] text i h = absurd (cc)
named_at (z ∷ zs) text zero h =
    let e : text ≡ z = cc in let b : bytes_eq text z ≡ true = (bytes_eq-Decides text z).1 e in rw b refl
named_at (z ∷ zs) text (suc i) h = rw (named_at zs text i h) (grind arith)

pub unique-push : (names : List (List ℕ)) (text : List ℕ) → NumbersAreUnique names → is_named names text ≡ false → NumbersAreUnique (names ++ text ∷ [])
unique-push names text unique absent t i j at_i at_j =
    elim (last_cases names text t i at_i) [
      | inl e ↦ elim (last_cases names text t j at_j) [
        | inl f ↦ unique t i j e f
        | inr q ↦ let f : slice_get names i ≡ Some text = rw q.1 e in let n = named_at names text i f in absurd (cc)
      ]
      | inr p ↦ elim (last_cases names text t j at_j) [
        | inl f ↦ let e : slice_get names j ≡ Some text = rw p.1 f in let n = named_at names text j e in absurd (cc)
        | inr q ↦ p.0 ∙ sym q.0
      ]
    ]

module _ {X : Type 0} (f : X → List ℕ) (text : List ℕ) where
  -- the test by which a text is looked up among keys that stand for texts
  abbrev pub is_key : X → Bool
  is_key x = bytes_eq text (f x)

  pub is_named-map : (xs : List X) → is_named (map f xs) text ≡ list_any is_key xs
  is_named-map [] = refl
  is_named-map (x ∷ xs) = ap (λ b. is_key x || b) (is_named-map xs)

  pub text_at_position : (xs : List X) (i : ℕ) → position is_key xs ≡ Some i → slice_get (map f xs) i ≡ Some text
  text_at_position [] i h = absurd (cc)
  text_at_position (x ∷ xs) i h =
      let found = position-Some is_key (x ∷ xs) i x h in
      let same : text ≡ f (get_or (x ∷ xs) i x) = (bytes_eq-Decides text (f (get_or (x ∷ xs) i x))).0 found.1 in
      slice_get-map f (x ∷ xs) i ∙ ap (option_map f) (slice_get-get_or (x ∷ xs) i x found.0) ∙ ap Some (sym same)

  -- what a look-up by that test finds is a number of the text
  pub held : (xs : List X) (found : Option ℕ) → found ≡ position is_key xs → IfSome found (λ i. slice_get (map f xs) i ≡ Some text)
  held xs None h = tt
  held xs (Some i) h = text_at_position xs i (sym h)

module _ {X : Type 0} (f : X → List ℕ) (eq : X → X → Bool) (same : (x y : X) → eq x y ≡ bytes_eq (f x) (f y)) where
  pub list_any-eq : (xs : List X) (k : X) → list_any (eq k) xs ≡ is_named (map f xs) (f k)
  list_any-eq [] k = refl
  list_any-eq (x ∷ xs) k = rw (same k x) (ap (λ b. bytes_eq (f k) (f x) || b) (list_any-eq xs k))

  map-append_one : (xs : List X) (k : X) → map f (xs ++ k ∷ []) ≡ map f xs ++ f k ∷ []
  map-append_one [] k = refl
  map-append_one (x ∷ xs) k = ap (λ ys. f x ∷ ys) (map-append_one xs k)

  -- inserting a key of a new text puts the text at the end
  pub inserted : (xs ys : List X) (k : X) (text : List ℕ) → f k ≡ text → is_named (map f xs) text ≡ false → ys ≡ insert_key eq xs k → map f ys ≡ map f xs ++ text ∷ []
  inserted xs ys k text is absent made =
      let absent' : is_named (map f xs) (f k) ≡ false = rw is absent in
      let none : list_any (eq k) xs ≡ false = list_any-eq xs k ∙ absent' in
      let e : ys ≡ xs ++ k ∷ [] = made ∙ ap (λ b. if b then xs else xs ++ k ∷ []) none in
      ap (map f) e ∙ map-append_one xs k ∙ ap (λ t. map f xs ++ t ∷ []) is

-- a list of different texts with a new one behind is one of different texts
pub unique-added : (old new : List (List ℕ)) (text : List ℕ) → new ≡ old ++ text ∷ [] → NumbersAreUnique old → is_named old text ≡ false → NumbersAreUnique new
unique-added old new text e unique absent = rw e (unique-push old text unique absent)

-- where texts stand for keys, there are as many keys as texts
pub length-pushed : {X : Type 0} (f : X → List ℕ) (keys : List X) (old : List (List ℕ)) (text : List ℕ) (most : ℕ) → map f keys ≡ old ++ text ∷ [] → length old < most → length keys ≤ most
length-pushed f keys old text most e h =
    omega (arith, length-map keys f, ap length e, length-append old (text ∷ []))
