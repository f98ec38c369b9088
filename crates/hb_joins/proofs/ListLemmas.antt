-- The structures that hold a mixin, when a structure is added or the last ones are cut.
use Rattle.std.proofs.Common.{◌≡◌, ℕ, zero, suc, ◌+◌, ◌<◌, ◌≤◌, Bool, true, false, cond, nat_lt, min, List, [], ◌∷◌, ◌++◌, length, take, refl, sym, ap, ◌∙◌, inl, inr, arith}
use Rattle.std.proofs.lemmas.Bool.{cases_lt}
use Rattle.std.proofs.lemmas.Bool.Decides.{nat_tests}
use Rattle.std.proofs.lemmas.List.{length_push, length-take, get_or-take, append-nil, ext_get_or}
use Rattle.std.proofs.lemmas.List.Elements.{filter-append}
use Rattle.hb_sets.specs.Set.{Set, contains, empty}
use Rattle.hb_order.specs.declared.ids.StructId.{StructId}
use Rattle.hb_order.specs.Heirs.{mix}
use Rattle.hb_order.proofs.HeirLemmas.{mix-old, mix-new}
use Rattle.hb_joins.specs.Changes.{IsChanged}
use Rattle.hb_joins.specs.Holding.{structures_below, structures_with}
use Rattle.hb_joins.specs.Lists.{held, is_before, held_before, held_after, AllBefore, IsAdded, IsCutBefore, AreHeld}

-- the n-th structure, where the set has the mixin
abbrev one_if : Bool → ℕ → List StructId
one_if b n = cond b (record { 0 = n } ∷ []) []

-- structures with the same sets hold the same mixins
below-along : (h h' : List Set) (m n : ℕ) → ((s : ℕ) → s < n → mix h' s ≡ mix h s) → structures_below h' m n ≡ structures_below h m n
below-along h h' m zero same = refl
below-along h h' m (suc n) same =
    ap (λ l. l ++ one_if (contains (mix h' n) m) n) (below-along h h' m n (λ s lt. same s (omega (arith, lt))))
    ∙ ap (λ x. structures_below h m n ++ one_if (contains x m) n) (same n (omega arith))

-- the new structure comes at the end
pub with-push : (h : List Set) (x : Set) (m : ℕ) → structures_with (h ++ x ∷ []) m ≡ held_after (record { 0 = length h }) x m (structures_with h m)
with-push h x m =
    ap (structures_below (h ++ x ∷ []) m) (length_push h x ∙ more)
    ∙ ap (λ l. l ++ one_if (contains (mix (h ++ x ∷ []) (length h)) m) (length h)) (below-along h (h ++ x ∷ []) m (length h) (λ s lt. mix-old h x s lt))
    ∙ ap (λ y. structures_with h m ++ one_if (contains y m) (length h)) (mix-new h x (length h) refl)
    ∙ by (contains x m)
  where
    more : length h + 1 ≡ suc (length h)
    more = omega arith

    by : (b : Bool) → structures_with h m ++ one_if b (length h) ≡ cond b (structures_with h m ++ record { 0 = length h } ∷ []) (structures_with h m)
    by true = refl
    by false = append-nil (structures_with h m)

one-before : (b : Bool) (n k : ℕ) → nat_lt n k ≡ true → held_before k (one_if b n) ≡ one_if b n
one-before true n k is = ap (λ c. cond c (record { 0 = n } ∷ []) []) is
one-before false n k is = refl

one-after : (b : Bool) (n k : ℕ) → nat_lt n k ≡ false → held_before k (one_if b n) ≡ []
one-after true n k is = ap (λ c. cond c (record { 0 = n } ∷ []) []) is
one-after false n k is = refl

-- those of the first n that come before the k-th
pub below-before : (h : List Set) (m n k : ℕ) → held_before k (structures_below h m n) ≡ structures_below h m (min k n)
below-before h m zero k = ap (structures_below h m) none
  where
    none : 0 ≡ min k 0
    none = omega arith
below-before h m (suc n) k =
    filter-append (is_before k) (structures_below h m n) (one_if (contains (mix h n) m) n)
    ∙ elim (cases_lt n k) [
      | inl before ↦
          ap (λ l. l ++ held_before k (one_if (contains (mix h n) m) n)) (below-before h m n k ∙ ap (structures_below h m) (all_of before))
          ∙ ap (λ l. structures_below h m n ++ l) (one-before (contains (mix h n) m) n k (yes before))
          ∙ ap (structures_below h m) (upto before)
      | inr after ↦
          ap (λ l. l ++ held_before k (one_if (contains (mix h n) m) n)) (below-before h m n k)
          ∙ ap (λ l. structures_below h m (min k n) ++ l) (one-after (contains (mix h n) m) n k (no after))
          ∙ append-nil (structures_below h m (min k n))
          ∙ ap (structures_below h m) (upto_k after)
    ]
  where
    yes : n < k → nat_lt n k ≡ true
    yes lt = grind (arith, nat_tests)

    no : k ≤ n → nat_lt n k ≡ false
    no le = grind (arith, nat_tests)

    all_of : n < k → min k n ≡ n
    all_of lt = omega arith

    upto : n < k → suc n ≡ min k (suc n)
    upto lt = omega arith

    upto_k : k ≤ n → min k n ≡ min k (suc n)
    upto_k le = omega arith

-- all declared structures come before the next one
pub with-before : (h : List Set) (m : ℕ) → held_before (length h) (structures_with h m) ≡ structures_with h m
with-before h m = below-before h m (length h) (length h) ∙ ap (structures_below h m) both
  where
    both : min (length h) (length h) ≡ length h
    both = omega arith

-- the first k structures
pub with-take : (h : List Set) (m k : ℕ) → held_before k (structures_with h m) ≡ structures_with (take k h) m
with-take h m k =
    below-before h m (length h) k
    ∙ sym (below-along h (take k h) m (min k (length h)) (λ s lt. get_or-take k h s empty (omega (arith, lt))))
    ∙ ap (structures_below (take k h) m) (sym (length-take k h))

pub all-before : (h : List Set) (lists : List (List StructId)) → AreHeld h lists → AllBefore (length h) lists
all-before h lists are m lt = ap (held_before (length h)) (are m lt) ∙ with-before h m ∙ sym (are m lt)

pub held-push : (h h' : List Set) (x : Set) (old new : List (List StructId)) (s : StructId) → h' ≡ h ++ x ∷ [] → s.0 ≡ length h → AreHeld h old → IsAdded s x old new → AreHeld h' new
held-push h h' x old new s is at are added m lt =
    added m lt
    ∙ ap (λ (n : ℕ). held_after (record { 0 = n }) x m (held old m)) at
    ∙ ap (held_after (record { 0 = length h }) x m) (are m lt)
    ∙ sym (with-push h x m)
    ∙ ap (λ l. structures_with l m) (sym is)

pub held-cut : (h h' : List Set) (old new : List (List StructId)) (n : ℕ) → h' ≡ take n h → AreHeld h old → IsCutBefore n old new → AreHeld h' new
held-cut h h' old new n is are cut m lt =
    cut m lt ∙ ap (held_before n) (are m lt) ∙ with-take h m n ∙ ap (λ l. structures_with l m) (sym is)

-- what was added is cut, and the lists are as they were
pub unadded : (n : ℕ) (old between new : List (List StructId)) → length old ≡ 1024 → length between ≡ 1024 → AllBefore n old → ((m : ℕ) → held_before n (held between m) ≡ held_before n (held old m)) → IsChanged (λ m was is. is ≡ held_before n was) [] between new (length between) → new ≡ old
unadded n old between new long long' before same cut = ext_get_or [] new old (cut.long ∙ long' ∙ sym long) (λ m lt.
    let small : m < 1024 = omega (arith, cut.long, long', lt) in
    cut.done m (omega (arith, long', small)) ∙ same m ∙ before m small)

-- what was added goes with what is cut
before-after : (s : StructId) (x : Set) (m : ℕ) (list : List StructId) → held_before s.0 (held_after s x m list) ≡ held_before s.0 list
before-after s x m list = by (contains x m)
  where
    itself : nat_lt s.0 s.0 ≡ false
    itself = grind (arith, nat_tests)

    by : (b : Bool) → held_before s.0 (cond b (list ++ s ∷ []) list) ≡ held_before s.0 list
    by true =
        filter-append (is_before s.0) list (s ∷ [])
        ∙ ap (λ c. held_before s.0 list ++ cond c (s ∷ []) []) itself
        ∙ append-nil (held_before s.0 list)
    by false = refl

-- the lists of the mixins before n were changed
pub earlier-kept : (s : StructId) (x : Set) (old new : List (List StructId)) (n : ℕ) → IsChanged (λ m was is. is ≡ held_after s x m was) [] old new n → (m : ℕ) → held_before s.0 (held new m) ≡ held_before s.0 (held old m)
earlier-kept s x old new n so m = elim (cases_lt m n) [
  | inl done ↦ ap (held_before s.0) (so.done m done) ∙ before-after s x m (held old m)
  | inr rest ↦ ap (held_before s.0) (so.rest m rest)
]
