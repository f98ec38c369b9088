-- Lists of names: what stands in them, and that none stands twice.
use Rattle.std.proofs.Common.{◌≡◌, ℕ, zero, suc, ◌+◌, ◌<◌, ◌≤◌, ◌≢◌, ◌⊎◌, inl, inr, List, [], ◌∷◌, ◌++◌, length, take, Some, slice_get, refl, ap, sym, ◌∙◌, arith, subst, append_assoc, append-nil}
use Rattle.hb_calculus.specs.Declarations.{Decl, an_axiom, a_definition, a_record, names_of, names, field_names, fields_of, IsIn, Distinct}
use Rattle.hb_tree.specs.Tree.{Tree}
use Rattle.std.proofs.lemmas.List.{take_more}
use Rattle.std.proofs.lemmas.Option.{slice_get_within, get_or_from_slice_get}

pub in_left : (n : ℕ) (xs ys : List ℕ) → IsIn n xs → IsIn n (xs ++ ys)
in_left n [] ys h = absurd h
in_left n (x ∷ xs) ys (inl e) = inl e
in_left n (x ∷ xs) ys (inr h) = inr (in_left n xs ys h)

pub in_right : (n : ℕ) (xs ys : List ℕ) → IsIn n ys → IsIn n (xs ++ ys)
in_right n [] ys h = h
in_right n (x ∷ xs) ys h = inr (in_right n xs ys h)

after_first : {n x : ℕ} {P Q : Type 0} → P ⊎ Q → ((n ≡ x) ⊎ P) ⊎ Q
after_first (inl p) = inl (inr p)
after_first (inr q) = inr q

pub in_either : (n : ℕ) (xs ys : List ℕ) → IsIn n (xs ++ ys) → IsIn n xs ⊎ IsIn n ys
in_either n [] ys h = inr h
in_either n (x ∷ xs) ys (inl e) = inl (inl e)
in_either n (x ∷ xs) ys (inr h) = after_first (in_either n xs ys h)

pub in_neither : (n : ℕ) (xs ys : List ℕ) → ¬ IsIn n xs → ¬ IsIn n ys → ¬ IsIn n (xs ++ ys)
in_neither n xs ys p q h = elim (in_either n xs ys h) [ inl a ↦ p a | inr b ↦ q b ]

one_not : (n m : ℕ) → ¬ (m ≡ n) → ¬ IsIn m (n ∷ [])
one_not n m h (inl e) = h e
one_not n m h (inr e) = e

pub distinct_push : (xs : List ℕ) (n : ℕ) → Distinct xs → ¬ IsIn n xs → Distinct (xs ++ n ∷ [])
distinct_push [] n d h = ((λ x. x), tt)
distinct_push (x ∷ xs) n d h = (in_neither x xs (n ∷ []) d.0 (one_not n x (λ e. h (inl (sym e)))), distinct_push xs n d.1 (λ p. h (inr p)))

pub distinct_left : (xs ys : List ℕ) → Distinct (xs ++ ys) → Distinct xs
distinct_left [] ys d = tt
distinct_left (x ∷ xs) ys d = ((λ p. d.0 (in_left x xs ys p)), distinct_left xs ys d.1)

pub distinct_apart : (xs ys : List ℕ) (n : ℕ) → Distinct (xs ++ ys) → IsIn n ys → ¬ IsIn n xs
distinct_apart [] ys n d h p = p
distinct_apart (x ∷ xs) ys n d h (inl e) = d.0 (subst (λ (k : ℕ). IsIn k (xs ++ ys)) e (in_right n xs ys h))
distinct_apart (x ∷ xs) ys n d h (inr p) = distinct_apart xs ys n d.1 h p

length_names : (fs : List (ℕ × Tree)) → length (field_names fs) ≡ length fs
length_names [] = refl
length_names (f ∷ fs) = omega (arith, length_names fs)

-- the names with one declaration more
pub names_push : (E : List Decl) (d : Decl) → names (E ++ d ∷ []) ≡ names E ++ names_of d
names_push [] d = append-nil (names_of d)
names_push (e ∷ E) d = ap (λ l. names_of e ++ l) (names_push E d) ∙ sym (append_assoc (names_of e) (names E) (names_of d))

-- a name at a place is in the list
pub in_at : (xs : List ℕ) (i n : ℕ) → slice_get xs i ≡ Some n → IsIn n xs
in_at [] i n e = absurd (cc)
in_at (x ∷ xs) zero n e = inl (cc)
in_at (x ∷ xs) (suc i) n e = inr (in_at xs i n e)

pub in_take : (xs : List ℕ) (i n k : ℕ) → slice_get xs i ≡ Some n → i < k → IsIn n (take k xs)
in_take [] i n k e h = absurd (cc)
in_take (x ∷ xs) i n zero e h = absurd (omega arith)
in_take (x ∷ xs) zero n (suc k) e h = inl (cc)
in_take (x ∷ xs) (suc i) n (suc k) e h = inr (in_take xs i n k e (omega arith))

-- the first k + 1 names, where the one at k is known
pub take_name : (xs : List ℕ) (k n : ℕ) → slice_get xs k ≡ Some n → take (k + 1) xs ≡ take k xs ++ n ∷ []
take_name xs k n e = take_more xs k 0 (slice_get_within xs k n e) ∙ ap (λ y. take k xs ++ y ∷ []) (get_or_from_slice_get xs k n 0 e)

pub not_in_more : (xs : List ℕ) (k m n : ℕ) → slice_get xs k ≡ Some m → m ≢ n → ¬ IsIn n (take k xs) → ¬ IsIn n (take (k + 1) xs)
not_in_more xs k m n e d h = rw (take_name xs k m e) (in_neither n (take k xs) (m ∷ []) h (one_not m n (λ p. d (sym p))))

pub distinct_more : (held xs : List ℕ) (k n : ℕ) → slice_get xs k ≡ Some n → Distinct (held ++ take k xs) → ¬ IsIn n (held ++ take k xs) → Distinct (held ++ take (k + 1) xs)
distinct_more held xs k n e d h =
    rw (take_name xs k n e, ← append_assoc held (take k xs) (n ∷ [])) (distinct_push (held ++ take k xs) n d h)

pub names_few : (d : Decl) → length (names_of d) ≤ fields_of d + 2
names_few (an_axiom n t) = omega arith
names_few (a_definition n t b) = omega arith
names_few (a_record n m ps k fs) = omega (arith, length_names fs)
