-- The givings at one carrier: the first that passes a test, and what was given, one giving after another.
use Rattle.std.proofs.Common.{◌≡◌, ℕ, zero, suc, ◌+◌, ◌<◌, ◌≤◌, Bool, true, false, cond, ◌&&◌, List, [], ◌∷◌, ◌++◌, length, take, get_or, None, Some, refl, ap, ◌∙◌, arith}
use Rattle.std.proofs.lemmas.List.{append-nil, take_all}
use Rattle.std.proofs.Math.Seq.{take-suc}
use Rattle.hb_sets.specs.Set.{contains, union}
use Rattle.hb_order.specs.Givings.{Giving, given, condition}
use Rattle.hb_order.proofs.GivingLemmas.{given-push}
use Rattle.hb_tree.specs.declared.leaves.ConstId.{ConstId}
use Rattle.hb_givings.specs.Givings.{Given, ungiven, same_const, givings_at, binder_count}

-- a function that takes the first item that passes
module _ {X Y : Type 0} (F : List X → Y) (p : X → Bool) (v : X → Y) (d : X) (step : (x : X) (xs : List X) → F (x ∷ xs) ≡ cond (p x) (v x) (F xs)) where
  pub takes-first : (xs : List X) (i : ℕ) → i < length xs → p (get_or xs i d) ≡ true → ((k : ℕ) → k < i → p (get_or xs k d) ≡ false) → F xs ≡ v (get_or xs i d)
  takes-first [] i lt passes fails = absurd (omega (arith, lt))
  takes-first (x ∷ xs) zero lt passes fails = step x xs ∙ ap (λ b. cond b (v x) (F xs)) passes
  takes-first (x ∷ xs) (suc i) lt passes fails =
      step x xs ∙ ap (λ b. cond b (v x) (F xs)) (fails zero (omega arith))
      ∙ takes-first xs i (omega (arith, lt)) passes (λ k before. fails (suc k) (omega (arith, before)))

  pub takes-none : (xs : List X) → ((k : ℕ) → k < length xs → p (get_or xs k d) ≡ false) → F xs ≡ F []
  takes-none [] fails = refl
  takes-none (x ∷ xs) fails =
      step x xs ∙ ap (λ b. cond b (v x) (F xs)) (fails zero (omega arith)) ∙ takes-none xs (λ k lt. fails (suc k) (omega (arith, lt)))

condition-step : (k : ConstId) (m : ℕ) (g : Given) (gs : List Given) → condition (givings_at (g ∷ gs) k) m ≡ cond (same_const g.carrier k && contains g.giving.gives m) g.giving.binders (condition (givings_at gs k) m)
condition-step k m g gs = by (same_const g.carrier k)
  where
    by : (b : Bool) → condition (cond b (g.giving ∷ givings_at gs k) (givings_at gs k)) m ≡ cond (b && contains g.giving.gives m) g.giving.binders (condition (givings_at gs k) m)
    by true = refl
    by false = refl

count-step : (k : ConstId) (g : Given) (gs : List Given) → binder_count (givings_at (g ∷ gs) k) ≡ cond (same_const g.carrier k) (Some (length g.giving.binders)) (binder_count (givings_at gs k))
count-step k g gs = by (same_const g.carrier k)
  where
    by : (b : Bool) → binder_count (cond b (g.giving ∷ givings_at gs k) (givings_at gs k)) ≡ cond b (Some (length g.giving.binders)) (binder_count (givings_at gs k))
    by true = refl
    by false = refl

module _ (gs : List Given) (k : ConstId) where
  pub condition-first : (m i : ℕ) → i < length gs → (same_const (get_or gs i ungiven).carrier k && contains (get_or gs i ungiven).giving.gives m) ≡ true → ((j : ℕ) → j < i → (same_const (get_or gs j ungiven).carrier k && contains (get_or gs j ungiven).giving.gives m) ≡ false) → condition (givings_at gs k) m ≡ (get_or gs i ungiven).giving.binders
  condition-first m i lt passes fails = takes-first (λ xs. condition (givings_at xs k) m) (λ g. same_const g.carrier k && contains g.giving.gives m) (λ g. g.giving.binders) ungiven (condition-step k m) gs i lt passes fails

  pub condition-none : (m n : ℕ) → length gs ≤ n → ((j : ℕ) → j < n → (same_const (get_or gs j ungiven).carrier k && contains (get_or gs j ungiven).giving.gives m) ≡ false) → condition (givings_at gs k) m ≡ []
  condition-none m n all fails = takes-none (λ xs. condition (givings_at xs k) m) (λ g. same_const g.carrier k && contains g.giving.gives m) (λ g. g.giving.binders) ungiven (condition-step k m) gs (λ j lt. fails j (omega (arith, lt, all)))

  pub count-first : (i : ℕ) → i < length gs → same_const (get_or gs i ungiven).carrier k ≡ true → ((j : ℕ) → j < i → same_const (get_or gs j ungiven).carrier k ≡ false) → binder_count (givings_at gs k) ≡ Some (length (get_or gs i ungiven).giving.binders)
  count-first i lt passes fails = takes-first (λ xs. binder_count (givings_at xs k)) (λ g. same_const g.carrier k) (λ g. Some (length g.giving.binders)) ungiven (count-step k) gs i lt passes fails

  pub count-none : (n : ℕ) → length gs ≤ n → ((j : ℕ) → j < n → same_const (get_or gs j ungiven).carrier k ≡ false) → binder_count (givings_at gs k) ≡ None
  count-none n all fails = takes-none (λ xs. binder_count (givings_at xs k)) (λ g. same_const g.carrier k) (λ g. Some (length g.giving.binders)) ungiven (count-step k) gs (λ j lt. fails j (omega (arith, lt, all)))

-- the givings at a carrier after one more
at-more : (gs : List Given) (g : Given) (k : ConstId) → givings_at (gs ++ g ∷ []) k ≡ givings_at gs k ++ givings_at (g ∷ []) k
at-more [] g k = refl
at-more (x ∷ gs) g k = by (same_const x.carrier k) (givings_at (gs ++ g ∷ []) k) (givings_at gs k) (at-more gs g k)
  where
    by : (b : Bool) (more less : List Giving) → more ≡ less ++ givings_at (g ∷ []) k → cond b (x.giving ∷ more) more ≡ cond b (x.giving ∷ less) less ++ givings_at (g ∷ []) k
    by true more less is = ap (λ r. x.giving ∷ r) is
    by false more less is = is

-- what the carrier was given after one more
pub given-more : (gs : List Given) (g : Given) (k : ConstId) → given (givings_at (gs ++ g ∷ []) k) ≡ cond (same_const g.carrier k) (union (given (givings_at gs k)) g.giving.gives) (given (givings_at gs k))
given-more gs g k = ap given (at-more gs g k) ∙ by (same_const g.carrier k)
  where
    by : (b : Bool) → given (givings_at gs k ++ cond b (g.giving ∷ []) []) ≡ cond b (union (given (givings_at gs k)) g.giving.gives) (given (givings_at gs k))
    by true = given-push (givings_at gs k) g.giving
    by false = ap given (append-nil (givings_at gs k))

pub given-next : (gs : List Given) (k : ConstId) (i : ℕ) → i < length gs → given (givings_at (take (i + 1) gs) k) ≡ cond (same_const (get_or gs i ungiven).carrier k) (union (given (givings_at (take i gs) k)) (get_or gs i ungiven).giving.gives) (given (givings_at (take i gs) k))
given-next gs k i lt =
    let e : i + 1 ≡ suc i = omega arith in
    ap (λ n. given (givings_at (take n gs) k)) e
    ∙ ap (λ l. given (givings_at l k)) (take-suc gs i ungiven lt)
    ∙ given-more (take i gs) (get_or gs i ungiven) k

pub given-all : (gs : List Given) (k : ConstId) (n : ℕ) → length gs ≤ n → given (givings_at (take n gs) k) ≡ given (givings_at gs k)
given-all gs k n le = ap (λ l. given (givings_at l k)) (take_all n gs le)
