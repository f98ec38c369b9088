-- The first place of a list that passes a test.
use Rattle.std.proofs.Common.{◌≡◌, ℕ, ◌<◌, ◌≤◌, Bool, true, false, cond, List, length, get_or, Some, None, ap, ◌∙◌, arith, nat_lt, nat_eq}
use Rattle.std.specs.List.{position, position_or_len}
use Rattle.std.proofs.lemmas.List.Sums.{position_or_len_is}
use Rattle.std.proofs.lemmas.List.{get_or_past}
use Rattle.std.proofs.lemmas.Bool.Decides.{nat_tests}
use Rattle.hb_sets.specs.Set.{empty}
use Rattle.hb_hier.specs.Hierarchy.{Ended, unended, provision}

module _ {X : Type 0} (p : X → Bool) (xs : List X) (d : X) where
  pub first_place : (i : ℕ) → i < length xs → p (get_or xs i d) ≡ true → ((k : ℕ) → k < i → p (get_or xs k d) ≡ false) → position_or_len p xs ≡ i
  first_place i lt passes fails = position_or_len_is p xs i d (omega (arith, lt)) fails (λ _. passes)

  pub no_place : (i : ℕ) → i ≤ length xs → length xs ≤ i → ((k : ℕ) → k < i → p (get_or xs k d) ≡ false) → position_or_len p xs ≡ i
  no_place i le ge fails = position_or_len_is p xs i d le fails (λ lt. absurd (omega (arith, lt, ge)))

  below_test : (i n : ℕ) → i < n → nat_lt i n ≡ true
  below_test i n lt = grind (arith, nat_tests)

  past_test : (i n : ℕ) → n ≤ i → nat_lt i n ≡ false
  past_test i n le = grind (arith, nat_tests)

  pub position-found : (i : ℕ) → i < length xs → p (get_or xs i d) ≡ true → ((k : ℕ) → k < i → p (get_or xs k d) ≡ false) → position p xs ≡ Some i
  position-found i lt passes fails =
      ap (λ n. cond (nat_lt n (length xs)) (Some n) None) (first_place i lt passes fails) ∙ ap (λ b. cond b (Some i) None) (below_test i (length xs) lt)

  pub position-none : (i : ℕ) → i ≤ length xs → length xs ≤ i → ((k : ℕ) → k < i → p (get_or xs k d) ≡ false) → position p xs ≡ None
  position-none i le ge fails =
      ap (λ n. cond (nat_lt n (length xs)) (Some n) None) (no_place i le ge fails) ∙ ap (λ b. cond b (Some i) None) (past_test i (length xs) ge)

pub first-provision : (endings : List Ended) (f i : ℕ) → i < length endings → nat_eq (get_or endings i unended).factory.0 f ≡ true → ((k : ℕ) → k < i → nat_eq (get_or endings k unended).factory.0 f ≡ false) → provision endings f ≡ (get_or endings i unended).provided
first-provision endings f i lt passes fails =
    ap (λ n. (get_or endings n unended).provided) (first_place (λ e. nat_eq e.factory.0 f) endings unended i lt passes fails)

pub no-provision : (endings : List Ended) (f i : ℕ) → i ≤ length endings → length endings ≤ i → ((k : ℕ) → k < i → nat_eq (get_or endings k unended).factory.0 f ≡ false) → provision endings f ≡ empty
no-provision endings f i le ge fails =
    ap (λ n. (get_or endings n unended).provided) (no_place (λ e. nat_eq e.factory.0 f) endings unended i le ge fails)
    ∙ ap (λ e. e.provided) (get_or_past endings i unended ge)
