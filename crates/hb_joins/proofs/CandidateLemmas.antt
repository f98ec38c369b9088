-- Which joins a set misses, and when it is allowed.
use Rattle.std.proofs.Common.{◌≡◌, ◌≢◌, ℕ, ◌<◌, Bool, true, false, true≢false, IsTrue, ◌↔◌, List, length, not, Option, None, Some, is_some, IsNone, IfSome, refl, sym, ◌∙◌, subst, inl, inr, arith}
use Rattle.std.proofs.lemmas.Bool.{cases_lt}
use Rattle.hb_sets.specs.Set.{Set, Inside, empty}
use Rattle.hb_sets.proofs.SetLemmas.{Inside-itself, Inside-through}
use Rattle.hb_order.specs.Heirs.{mix, IsJoin}
use Rattle.hb_order.specs.Allowed.{IsMissing, IsAllowed, AllAllowed, NoneAbove, NoneMissingWith}
use Rattle.hb_order.proofs.AllowedLemmas.{lawful, one-join}
use Rattle.hb_joins.proofs.TableLemmas.{turned-join}

-- where the one join is inside, none is missing
pub none_missing : (h : List Set) → AllAllowed h → (x : Set) (a b j : ℕ) → IsJoin h a b j → Inside (mix h j) x → (i : ℕ) → ¬ (IsMissing h x a b i)
none_missing h all x a b j join inside i missing =
    missing.outside (subst (λ (n : ℕ). Inside (mix h n) x) (one-join h (lawful h all) a b j i join missing.join) inside)

missing-turned : (h : List Set) (x : Set) (a b j : ℕ) → IsMissing h x a b j → IsMissing h x b a j
missing-turned h x a b j missing = record {
  left = missing.right;
  right = missing.left;
  join = turned-join h a b j missing.join;
  outside = missing.outside;
}

-- a structure with itself misses nothing
missing-self : (h : List Set) (x : Set) (a j : ℕ) → a < length h → ¬ (IsMissing h x a a j)
missing-self h x a j la missing =
    missing.outside (Inside-through (mix h j) (mix h a) x (missing.join.least a (record { declared = la; left = Inside-itself (mix h a); right = Inside-itself (mix h a) })) missing.left)

-- the tests of a new set, one after another
pub allowed_by_tests : (h : List Set) (x : Set) → x ≢ empty → NoneAbove h x → ((a : ℕ) → a < length h → NoneMissingWith h x a (length h)) → IsAllowed h x
allowed_by_tests h x some above none = record {
  some = some;
  not_above = above;
  joins = λ a b j la lb missing. elim (cases_lt a b) [
    | inl before ↦ none a la b before lb j missing
    | inr from ↦ elim (cases_lt b a) [
      | inl after ↦ none b lb a after la j (missing-turned h x a b j missing)
      | inr to ↦ missing-self h x a j la (subst (λ (n : ℕ). IsMissing h x a n j) (omega (arith, from, to)) missing)
    ]
  ];
}

-- a set that isn't the same as an empty one isn't empty
pub some-by_same : (x e : Set) {same : Bool} → same ≡ false → (IsTrue same ↔ (x ≡ e)) → e ≡ empty → x ≢ empty
some-by_same x e off same none is = true≢false (sym (same.1 (is ∙ sym none)) ∙ off)

-- what a search without a find says
pub none_found : {R : Type 0} (found : Option R) (some : Bool) → some ≡ false → some ≡ is_some found → IsNone found
none_found None some off is = refl
none_found (Some r) some off is = absurd (true≢false (sym is ∙ off))

-- the last search for a reason against the set decides
pub decided : {R : Type 0} (h : List Set) (x : Set) (found : Option R) (none : Bool) (P : R → Type 0) → is_some found ≡ not none → ((r : R) → P r → ¬ (IsAllowed h x)) → IfSome found P → (IsNone found → IsAllowed h x) → IsTrue none ↔ IsAllowed h x
decided h x None true P is refutes found allowed = (λ on. allowed refl, λ a. refl)
decided h x None false P is refutes found allowed = absurd cc
decided h x (Some r) true P is refutes found allowed = absurd cc
decided h x (Some r) false P is refutes found allowed = (λ on. absurd (true≢false (sym on)), λ a. absurd (refutes r found a))
