-- The tests of a new set, one after another.
use Rattle.std.proofs.Common.{◌≢◌, ℕ, ◌<◌, List, length, subst, inl, inr, arith}
use Rattle.std.proofs.lemmas.Bool.{cases_lt}
use Rattle.hb_sets.specs.Set.{Set, empty}
use Rattle.hb_sets.proofs.SetLemmas.{Inside-itself, Inside-through}
use Rattle.hb_order.specs.Heirs.{mix, IsCommonHeir}
use Rattle.hb_order.specs.Allowed.{IsMissing, IsAllowed, NoneAbove, NoneMissingWith}

missing-turned : (h : List Set) (x : Set) (a b j : ℕ) → IsMissing h x a b j → IsMissing h x b a j
missing-turned h x a b j missing = record {
  left = missing.right;
  right = missing.left;
  join = record {
    heir = turned a b j missing.join.heir;
    least = λ k common. missing.join.least k (turned b a k common);
  };
  outside = missing.outside;
}
  where
    turned : (c d k : ℕ) → IsCommonHeir h c d k → IsCommonHeir h d c k
    turned c d k common = record { declared = common.declared; left = common.right; right = common.left }

-- a structure with itself misses nothing
missing-self : (h : List Set) (x : Set) (a j : ℕ) → a < length h → ¬ (IsMissing h x a a j)
missing-self h x a j la missing =
    missing.outside (Inside-through (mix h j) (mix h a) x (missing.join.least a (record { declared = la; left = Inside-itself (mix h a); right = Inside-itself (mix h a) })) missing.left)

-- the tests of a new set, one after another
pub allowed_by_tests : (h : List Set) (x : Set) → x ≢ empty → NoneAbove h x → ((a : ℕ) → a < length h → NoneMissingWith h x a (length h)) → IsAllowed h x
allowed_by_tests h x some above none = record {
  some = some;
  not_above = above;
  joins = λ a b j la lb missing. elim (cases_lt a b) [
    | inl before ↦ none a la b before lb j missing
    | inr from ↦ elim (cases_lt b a) [
      | inl after ↦ none b lb a after la j (missing-turned h x a b j missing)
      | inr to ↦ missing-self h x a j la (subst (λ (n : ℕ). IsMissing h x a n j) (omega (arith, from, to)) missing)
    ]
  ];
}
