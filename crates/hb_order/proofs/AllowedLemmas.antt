-- What holds of structures that were all allowed: the later is never below the earlier, and joins exist.
use Rattle.std.proofs.Common.{refl, ◌≡◌, ℕ, zero, suc, ◌<◌, ◌≤◌, List, [], ◌∷◌, ◌++◌, length, take, sym, ◌∙◌, subst, ◌⊎◌, inl, inr, arith}
use Rattle.std.proofs.lemmas.Bool.{cases_lt}
use Rattle.std.proofs.lemmas.List.{length_push, take-append-le, get_or-take, length-take, take-take}
use Rattle.std.proofs.Math.Seq.{take-suc, take-length}
use Rattle.hb_sets.specs.Set.{Set, Inside, empty}
use Rattle.hb_sets.proofs.SetLemmas.{Inside-itself}
use Rattle.hb_order.specs.Heirs.{mix, IsHeir, IsCommonHeir, IsJoin}
use Rattle.hb_order.specs.Allowed.{IsAllowed, AllAllowed, JoinsAreUnique}
use Rattle.hb_order.proofs.HeirLemmas.{Inside-cases, mix-old, mix-new, heir-of_more, heir-in_more, new-holds, holds-new, older-holds}

pub record IsLawful (h : List Set) : Type 0 where
  pub ordered : (i j : ℕ) → i < j → j < length h → ¬ (IsHeir h i j)
  pub joined : (a b k : ℕ) → a < length h → b < length h → IsCommonHeir h a b k → (j : ℕ) × IsJoin h a b j

-- two structures with a common heir before n, or none there
common-cases : (h : List Set) (a b n : ℕ) → n ≤ length h → ((k : ℕ) × (k < n) × IsCommonHeir h a b k) ⊎ ((k : ℕ) → k < n → ¬ (IsCommonHeir h a b k))
common-cases h a b zero le = inr (λ k lt. absurd (omega (arith, lt)))
common-cases h a b (suc n) le =
    elim (common-cases h a b n (omega (arith, le))) [
      | inl found ↦ inl (found.0, omega (arith, found.1), found.2)
      | inr none ↦ elim (Inside-cases (mix h a) (mix h n)) [
        | inl left ↦ elim (Inside-cases (mix h b) (mix h n)) [
          | inl right ↦ inl (n, omega arith, record { declared = omega (arith, le); left = left; right = right })
          | inr outside ↦ inr (λ k lt common. last k lt none (λ at. outside (subst (λ (i : ℕ). IsHeir h i b) at common.right)) common)
        ]
        | inr outside ↦ inr (λ k lt common. last k lt none (λ at. outside (subst (λ (i : ℕ). IsHeir h i a) at common.left)) common)
      ]
    ]
  where
    last : (k : ℕ) → k < suc n → ((k : ℕ) → k < n → ¬ (IsCommonHeir h a b k)) → (k ≡ n → ⊥) → ¬ (IsCommonHeir h a b k)
    last k lt none off common = elim (cases_lt k n) [ inl before ↦ none k before common | inr at ↦ off (omega (arith, lt, at)) ]

module _ (h : List Set) (x : Set) where
  pub place-cases : (k : ℕ) → k < length (h ++ x ∷ []) → (k < length h) ⊎ (length h ≡ k)
  place-cases k lt = elim (cases_lt k (length h)) [ inl old ↦ inl old | inr new ↦ inr (omega (arith, length_push h x, lt, new)) ]

  pub old-declared : (k : ℕ) → k < length h → k < length (h ++ x ∷ [])
  old-declared k lt = omega (arith, length_push h x, lt)

  pub new-declared : length h < length (h ++ x ∷ [])
  new-declared = omega (arith, length_push h x)

  common-of_more : (a b k : ℕ) → a < length h → b < length h → k < length h → IsCommonHeir (h ++ x ∷ []) a b k → IsCommonHeir h a b k
  common-of_more a b k la lb lk common = record { declared = lk; left = heir-of_more h x k a lk la common.left; right = heir-of_more h x k b lk lb common.right }

  common-in_more : (a b k : ℕ) → a < length h → b < length h → IsCommonHeir h a b k → IsCommonHeir (h ++ x ∷ []) a b k
  common-in_more a b k la lb common = record {
    declared = old-declared k common.declared;
    left = heir-in_more h x k a common.declared la common.left;
    right = heir-in_more h x k b common.declared lb common.right;
  }

  -- an allowed set holds the join of two structures that it holds
  pub holds-join : IsAllowed h x → (a b j : ℕ) → a < length h → b < length h → IsJoin h a b j → Inside (mix h a) x → Inside (mix h b) x → Inside (mix h j) x
  holds-join allowed a b j la lb join left right =
      elim (Inside-cases (mix h j) x) [
        | inl holds ↦ holds
        | inr outside ↦ absurd (allowed.joins a b j la lb (record { left = left; right = right; join = join; outside = outside }))
      ]

  join-kept : IsAllowed h x → (a b j : ℕ) → a < length h → b < length h → IsJoin h a b j → IsJoin (h ++ x ∷ []) a b j
  join-kept allowed a b j la lb join = record {
    heir = common-in_more a b j la lb join.heir;
    least = λ k common. elim (place-cases k common.declared) [
      | inl old ↦ heir-in_more h x k j old join.heir.declared (join.least k (common-of_more a b k la lb old common))
      | inr new ↦ holds-new h x k j new join.heir.declared (holds-join allowed a b j la lb join (new-holds h x k a new la common.left) (new-holds h x k b new lb common.right))
    ];
  }

  join-new : (a b : ℕ) → ((k : ℕ) → IsCommonHeir (h ++ x ∷ []) a b k → length h ≡ k) → (k : ℕ) → IsCommonHeir (h ++ x ∷ []) a b k → (j : ℕ) × IsJoin (h ++ x ∷ []) a b j
  join-new a b each k common = (
    k,
    record {
      heir = common;
      least = λ i other. subst (λ (n : ℕ). IsHeir (h ++ x ∷ []) n k) (sym (each k common) ∙ each i other) (Inside-itself _);
    },
  )

  -- no older structure is an heir of the new one
  not_older : IsAllowed h x → (a k : ℕ) → length h ≡ a → k < length (h ++ x ∷ []) → IsHeir (h ++ x ∷ []) k a → length h ≡ k
  not_older allowed a k at lt is =
      elim (place-cases k lt) [ inl old ↦ absurd (allowed.not_above k old (older-holds h x k a old at is)) | inr new ↦ new ]

  joined-push : IsLawful h → IsAllowed h x → (a b k : ℕ) → a < length (h ++ x ∷ []) → b < length (h ++ x ∷ []) → IsCommonHeir (h ++ x ∷ []) a b k → (j : ℕ) × IsJoin (h ++ x ∷ []) a b j
  joined-push law allowed a b k la lb common =
      elim (place-cases a la) [
        | inr new ↦ join-new a b (λ i c. not_older allowed a i new c.declared c.left) k common
        | inl old_a ↦ elim (place-cases b lb) [
          | inr new ↦ join-new a b (λ i c. not_older allowed b i new c.declared c.right) k common
          | inl old_b ↦ elim (common-cases h a b (length h) (omega arith)) [
            | inl found ↦ kept old_a old_b (law.joined a b found.0 old_a old_b found.2)
            | inr none ↦ join-new a b (λ i c. elim (place-cases i c.declared) [ inl old ↦ absurd (none i old (common-of_more a b i old_a old_b old c)) | inr new ↦ new ]) k common
          ]
        ]
      ]
    where
      kept : a < length h → b < length h → (j : ℕ) × IsJoin h a b j → (j : ℕ) × IsJoin (h ++ x ∷ []) a b j
      kept old_a old_b found = (found.0, join-kept allowed a b found.0 old_a old_b found.1)

  pub lawful-push : IsLawful h → IsAllowed h x → IsLawful (h ++ x ∷ [])
  lawful-push law allowed = record {
    ordered = λ i j lt declared is. elim (place-cases j declared) [
      | inl old ↦ law.ordered i j lt old (heir-of_more h x i j (omega (arith, lt, old)) old is)
      | inr new ↦ allowed.not_above i (omega (arith, lt, new)) (older-holds h x i j (omega (arith, lt, new)) new is)
    ];
    joined = joined-push law allowed;
  }

  pub AllAllowed-push : AllAllowed h → IsAllowed h x → AllAllowed (h ++ x ∷ [])
  AllAllowed-push all allowed s lt = elim (place-cases s lt) [
    | inl old ↦ let e = take-append-le s h (x ∷ []) (omega (arith, old)) in let f = mix-old h x s old in rw (e, f) (all s old)
    | inr new ↦ subst (λ (n : ℕ). IsAllowed (take n (h ++ x ∷ [])) (mix (h ++ x ∷ []) n)) new (let e = take-append-le (length h) h (x ∷ []) (omega arith) in let g = take-length h in let f = mix-new h x (length h) refl in rw (e, g, f) allowed)
  ]

lawful-none : IsLawful []
lawful-none = record { ordered = λ i j lt declared. absurd (omega (arith, declared)); joined = λ a b k declared. absurd (omega (arith, declared)) }

lawful-take : (h : List Set) → AllAllowed h → (n : ℕ) → n ≤ length h → IsLawful (take n h)
lawful-take h all zero le = lawful-none
lawful-take h all (suc n) le =
    subst IsLawful (sym (take-suc h n empty (omega (arith, le)))) (lawful-push (take n h) (mix h n) (lawful-take h all n (omega (arith, le))) (all n (omega (arith, le))))

pub lawful : (h : List Set) → AllAllowed h → IsLawful h
lawful h all = subst IsLawful (take-length h) (lawful-take h all (length h) (omega arith))

-- two joins are one
pub one-join : (h : List Set) → IsLawful h → (a b i j : ℕ) → IsJoin h a b i → IsJoin h a b j → i ≡ j
one-join h law a b i j first second =
    elim (cases_lt i j) [
      | inl before ↦ absurd (law.ordered i j before second.heir.declared (second.least i first.heir))
      | inr from ↦ elim (cases_lt j i) [
        | inl before ↦ absurd (law.ordered j i before first.heir.declared (first.least j second.heir))
        | inr to ↦ omega (arith, from, to)
      ]
    ]

pub joins_unique : JoinsAreUnique
joins_unique h all a b k la lb common =
    let law = lawful h all in
    let found = law.joined a b k la lb common in
    (found.0, found.1, λ i join. one-join h law a b i found.0 join found.1)

-- the first n of structures that were all allowed were all allowed
pub AllAllowed-take : (h : List Set) (n : ℕ) → AllAllowed h → AllAllowed (take n h)
AllAllowed-take h n all s lt =
    let below : s < n = omega (arith, length-take n h, lt) in
    let declared : s < length h = omega (arith, length-take n h, lt) in
    let e = take-take s n h (omega (arith, below)) in
    let f = get_or-take n h s empty below in
    rw (e, f) (all s declared)
