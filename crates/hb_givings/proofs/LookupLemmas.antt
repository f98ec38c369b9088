-- What is looked up after one more giving, and after one less.
use Rattle.std.proofs.Common.{◌≡◌, ℕ, suc, ◌+◌, ◌<◌, ◌≤◌, Bool, true, false, true≢false, is_none, IsSome, cond, not, ◌&&◌, List, [], ◌∷◌, ◌++◌, length, take, get_or, Option, Some, None, refl, sym, ap, ◌∙◌, arith, nat_eq, nat_lt}
use Rattle.std.specs.Prelude.{position}
use Rattle.std.specs.List.{position_or_len}
use Rattle.std.specs.Option.{option_or, option_map, unwrap_or}
use Rattle.std.proofs.lemmas.Bool.Decides.{nat_tests}
use Rattle.std.proofs.lemmas.List.{length_push, take-append-le}
use Rattle.std.proofs.lemmas.List.Folds.{position_or_len_push}
use Rattle.std.proofs.lemmas.List.Sums.{prefix_len-le-length}
use Rattle.std.proofs.lemmas.List.Quantifiers.{position-Some}
use Rattle.std.proofs.Math.Seq.{take-length}
use Rattle.hb_sets.specs.Set.{Set, contains, union}
use Rattle.hb_order.specs.declared.ids.StructId.{StructId}
use Rattle.hb_order.specs.Givings.{Giving, given, condition}
use Rattle.hb_order.proofs.GivingLemmas.{given-push}
use Rattle.hb_tree.specs.declared.leaves.ConstId.{ConstId}
use Rattle.hb_givings.specs.declared.records.Summary.{Summary}
use Rattle.hb_givings.specs.Givings.{Given, ungiven, same_const, givings_at, with_carrier, carriers_of, binder_count}
use Rattle.hb_givings.specs.Lookups.{summary, source, Sources, summary_in, source_in, AreSummaries, AreSources, Adds, Puts, with_new, without_new}
use Rattle.hb_givings.proofs.CarrierLemmas.{same-itself, same-swap, same-equal, at-push, carriers-push, some_giving, among, among-carriers}

-- what a summary says
pub summary-given : (gs : List Giving) (s : Summary) → Some s ≡ summary gs → s.given ≡ given gs
summary-given [] s is = absurd cc
summary-given (g ∷ gs) s is = ap (λ o. (unwrap_or o s).given) is

pub summary-count : (gs : List Giving) (s : Summary) → Some s ≡ summary gs → Some s.binders ≡ binder_count gs
summary-count [] s is = absurd cc
summary-count (g ∷ gs) s is = ap (λ o. Some (unwrap_or o s).binders) is

pub summary-none : (gs : List Giving) → None ≡ summary gs → gs ≡ []
summary-none [] is = refl
summary-none (g ∷ gs) is = absurd cc

-- after one more giving
pub summary-push : (gs : List Giving) (g : Giving) → Some (record { binders = unwrap_or (binder_count gs) (length g.binders); given = union (given gs) g.gives }) ≡ summary (gs ++ g ∷ [])
summary-push [] g = λ i. Some (record { binders = length g.binders; given = sym (given-push [] g) i })
summary-push (x ∷ gs) g = λ i. Some (record { binders = length x.binders; given = sym (given-push (x ∷ gs) g) i })

-- where something was given there is a summary
pub summary-last : (gs : List Giving) (g : Giving) → IsSome (summary (gs ++ g ∷ []))
summary-last [] g = refl
summary-last (x ∷ gs) g = refl

module _ (gs : List Given) (g : Given) where
  summary-at : (k : ConstId) → summary (givings_at (gs ++ g ∷ []) k) ≡ cond (same_const g.carrier k) (summary (givings_at gs k ++ g.giving ∷ [])) (summary (givings_at gs k))
  summary-at k = ap summary (at-push gs g k) ∙ by (same_const g.carrier k)
    where
      by : (b : Bool) → summary (cond b (givings_at gs k ++ g.giving ∷ []) (givings_at gs k)) ≡ cond b (summary (givings_at gs k ++ g.giving ∷ [])) (summary (givings_at gs k))
      by true = refl
      by false = refl

  pub summaries-push : (es es' : List (ConstId × Summary)) (s : Summary) → AreSummaries gs es → Some s ≡ summary (givings_at gs g.carrier ++ g.giving ∷ []) → Puts es g.carrier (Some s) es' → AreSummaries (gs ++ g ∷ []) es'
  summaries-push es es' s old is puts = λ k. puts k ∙ by k (same_const g.carrier k) refl ∙ sym (summary-at k)
    where
      by : (k : ConstId) (b : Bool) → same_const g.carrier k ≡ b → cond b (Some s) (summary_in es k) ≡ cond b (summary (givings_at gs k ++ g.giving ∷ [])) (summary (givings_at gs k))
      by k true on = is ∙ ap (λ c. summary (givings_at gs c ++ g.giving ∷ [])) (same-equal g.carrier k on)
      by k false off = old k

  pub summaries-pop : (es es' : List (ConstId × Summary)) (before : Option Summary) → AreSummaries (gs ++ g ∷ []) es → before ≡ summary (givings_at gs g.carrier) → Puts es g.carrier before es' → AreSummaries gs es'
  summaries-pop es es' before old is puts = λ k. puts k ∙ by k (same_const g.carrier k) refl (old k ∙ summary-at k)
    where
      by : (k : ConstId) (b : Bool) → same_const g.carrier k ≡ b → summary_in es k ≡ cond b (summary (givings_at gs k ++ g.giving ∷ [])) (summary (givings_at gs k)) → cond b before (summary_in es k) ≡ summary (givings_at gs k)
      by k true on was = is ∙ ap (λ c. summary (givings_at gs c)) (same-equal g.carrier k on)
      by k false off was = was

  -- the carrier of the last giving has a summary
  pub summary-there : summary (givings_at (gs ++ g ∷ []) g.carrier) ≡ summary (givings_at gs g.carrier ++ g.giving ∷ [])
  summary-there = summary-at g.carrier ∙ ap (λ b. cond b (summary (givings_at gs g.carrier ++ g.giving ∷ [])) (summary (givings_at gs g.carrier))) (same-itself g.carrier)

  -- the carriers
  carriers-new : with_new (carriers_of gs) g.carrier (summary (givings_at gs g.carrier)) ≡ with_carrier (carriers_of gs) g.carrier
  carriers-new = by (givings_at gs g.carrier) (among-carriers g.carrier gs)
    where
      by : (at : List Giving) → among (carriers_of gs) g.carrier ≡ some_giving at → with_new (carriers_of gs) g.carrier (summary at) ≡ with_carrier (carriers_of gs) g.carrier
      by [] is = ap (λ b. cond b (carriers_of gs) (carriers_of gs ++ g.carrier ∷ [])) (sym is)
      by (x ∷ at) is = ap (λ b. cond b (carriers_of gs) (carriers_of gs ++ g.carrier ∷ [])) (sym is)

  pub carried-push : (ks ks' : List ConstId) (before : Option Summary) → ks ≡ carriers_of gs → before ≡ summary (givings_at gs g.carrier) → ks' ≡ with_new ks g.carrier before → ks' ≡ carriers_of (gs ++ g ∷ [])
  carried-push ks ks' before is had after = after ∙ (λ i. with_new (is i) g.carrier (had i)) ∙ carriers-new ∙ sym (carriers-push gs g)

  without-with : (ks : List ConstId) (before : Option Summary) → without_new (with_new ks g.carrier before) before ≡ ks
  without-with ks None = ap (λ n. take n (ks ++ g.carrier ∷ [])) (omega (arith, length_push ks g.carrier)) ∙ take-append-le (length ks) ks (g.carrier ∷ []) (omega arith) ∙ take-length ks
  without-with ks (Some s) = refl

  pub carried-pop : (ks ks' : List ConstId) (before : Option Summary) → ks ≡ carriers_of (gs ++ g ∷ []) → before ≡ summary (givings_at gs g.carrier) → ks' ≡ without_new ks before → ks' ≡ carriers_of gs
  carried-pop ks ks' before is had after =
      after
      ∙ ap (λ l. without_new l before) (is ∙ carriers-push gs g ∙ sym carriers-new ∙ ap (with_new (carriers_of gs) g.carrier) (sym had))
      ∙ without-with (carriers_of gs) before

-- first places
module _ {X : Type 0} (p : X → Bool) where
  position-push : (xs : List X) (y : X) → position p (xs ++ y ∷ []) ≡ option_or (position p xs) (cond (p y) (Some (length xs)) None)
  position-push xs y = ap (λ n. cond (nat_lt n (length (xs ++ y ∷ []))) (Some n) None) (position_or_len_push p xs y) ∙ ap (λ l. cond (nat_lt at l) (Some at) None) (length_push xs y) ∙ step (p y) (position_or_len p xs) (length xs) (prefix_len-le-length (λ x. not (p x)) xs)
    where
      at : ℕ
      at = cond (nat_eq (position_or_len p xs) (length xs)) (length xs + cond (p y) 0 1) (position_or_len p xs)

      step : (b : Bool) (n l : ℕ) → n ≤ l → cond (nat_lt (cond (nat_eq n l) (l + cond b 0 1) n) (l + 1)) (Some (cond (nat_eq n l) (l + cond b 0 1) n)) None ≡ option_or (cond (nat_lt n l) (Some n) None) (cond b (Some l) None)
      step b n l le = grind (arith, nat_tests)

  position-cons : (x : X) (xs : List X) → position p (x ∷ xs) ≡ cond (p x) (Some 0) (option_map suc (position p xs))
  position-cons x xs = by (p x) (position_or_len p xs) (length xs)
    where
      by : (b : Bool) (n l : ℕ) → cond (nat_lt (cond (not b) (1 + n) 0) (suc l)) (Some (cond (not b) (1 + n) 0)) None ≡ cond b (Some 0) (option_map suc (cond (nat_lt n l) (Some n) None))
      by true n l = ap (λ b. cond b (Some 0) None) (first l)
        where
          first : (l : ℕ) → nat_lt 0 (suc l) ≡ true
          first l = grind (arith, nat_tests)
      by false n l = later (nat_lt n l) refl
        where
          shifted : (n l : ℕ) (b : Bool) → nat_lt n l ≡ b → nat_lt (1 + n) (suc l) ≡ b
          shifted n l b is = grind (arith, nat_tests)

          later : (b : Bool) → nat_lt n l ≡ b → cond (nat_lt (1 + n) (suc l)) (Some (1 + n)) None ≡ option_map suc (cond b (Some n) None)
          later true is = ap (λ b. cond b (Some (1 + n)) None) (shifted n l true is) ∙ ap Some (omega arith)
          later false is = ap (λ b. cond b (Some (1 + n)) None) (shifted n l false is)

-- the binders of the giving at a place
abbrev by_place : List Given → Option ℕ → List (Option StructId)
by_place gs None = []
by_place gs (Some i) = (get_or gs i ungiven).giving.binders

by_place-suc : (g : Given) (gs : List Given) (o : Option ℕ) → by_place (g ∷ gs) (option_map suc o) ≡ by_place gs o
by_place-suc g gs None = refl
by_place-suc g gs (Some i) = refl

condition-is : (gs : List Given) (k : ConstId) (m : ℕ) → by_place gs (source gs k m) ≡ condition (givings_at gs k) m
condition-is [] k m = refl
condition-is (g ∷ gs) k m =
    ap (by_place (g ∷ gs)) (position-cons (λ x. same_const x.carrier k && contains x.giving.gives m) g gs)
    ∙ by (same_const g.carrier k) (contains g.giving.gives m) refl (by_place-suc g gs (source gs k m) ∙ condition-is gs k m)
  where
    by : (b c : Bool) → contains g.giving.gives m ≡ c → by_place (g ∷ gs) (option_map suc (source gs k m)) ≡ condition (givings_at gs k) m → by_place (g ∷ gs) (cond (b && c) (Some 0) (option_map suc (source gs k m))) ≡ condition (cond b (g.giving ∷ givings_at gs k) (givings_at gs k)) m
    by true true on rest = sym (ap (λ d. cond d g.giving.binders (condition (givings_at gs k) m)) on)
    by true false off rest = rest ∙ sym (ap (λ d. cond d g.giving.binders (condition (givings_at gs k) m)) off)
    by false c is rest = rest

pub condition-some : (gs : List Given) (k : ConstId) (m i : ℕ) → Some i ≡ source gs k m → (get_or gs i ungiven).giving.binders ≡ condition (givings_at gs k) m
condition-some gs k m i is = ap (by_place gs) is ∙ condition-is gs k m

pub condition-none : (gs : List Given) (k : ConstId) (m : ℕ) → None ≡ source gs k m → [] ≡ condition (givings_at gs k) m
condition-none gs k m is = ap (by_place gs) is ∙ condition-is gs k m

pub source-within : (gs : List Given) (k : ConstId) (m i : ℕ) → Some i ≡ source gs k m → i < length gs
source-within gs k m i is = (position-Some (λ g. same_const g.carrier k && contains g.giving.gives m) gs i ungiven (sym is)).0

pub sources-push : (gs : List Given) (g : Given) (es es' : Sources) (at : ℕ) → at ≡ length gs → AreSources gs es → Adds es g.carrier (contains g.giving.gives) at es' → AreSources (gs ++ g ∷ []) es'
sources-push gs g es es' at is old adds = λ k m.
    adds k m
    ∙ (λ i. option_or (old k m i) (cond (same_const g.carrier k && contains g.giving.gives m) (Some (is i)) None))
    ∙ sym (position-push (λ x. same_const x.carrier k && contains x.giving.gives m) gs g)

-- one more entry
module _ (k : ConstId) (at : ℕ) where
  pub lookup-push : (es : Sources) (c : ConstId) (n m : ℕ) → source_in (es ++ ((k, record { 0 = n }), at) ∷ []) c m ≡ option_or (source_in es c m) (cond (same_const c k && nat_eq m n) (Some at) None)
  lookup-push [] c n m = refl
  lookup-push (e ∷ es) c n m = by (same_const c e.0.0 && nat_eq m e.0.1.0) (lookup-push es c n m)
    where
      by : (b : Bool) → source_in (es ++ ((k, record { 0 = n }), at) ∷ []) c m ≡ option_or (source_in es c m) (cond (same_const c k && nat_eq m n) (Some at) None) → cond b (Some e.1) (source_in (es ++ ((k, record { 0 = n }), at) ∷ []) c m) ≡ option_or (cond b (Some e.1) (source_in es c m)) (cond (same_const c k && nat_eq m n) (Some at) None)
      by true is = refl
      by false is = is

none-is : (o : Option ℕ) → is_none o ≡ true → o ≡ None
none-is None is = refl
none-is (Some n) is = absurd (true≢false (sym is))

number-swap : (a b : ℕ) → nat_eq a b ≡ nat_eq b a
number-swap a b = grind (arith, nat_tests)

-- one mixin that wasn't there
module _ (k : ConstId) (n at : ℕ) (es : Sources) (s : Set) where
  pub absent : is_none (source_in es k n) ≡ true → source_in es k n ≡ None
  absent is = none-is (source_in es k n) is

  pub adds-one : (es' : Sources) → es' ≡ es ++ ((k, record { 0 = n }), at) ∷ [] → contains s n ≡ true → Adds es k (λ m. nat_eq n m && contains s n) at es'
  adds-one es' is has = λ c m.
      ap (λ (l : Sources). source_in l c m) is
      ∙ lookup-push k at es c n m
      ∙ (λ i. option_or (source_in es c m) (cond (same-swap c k i && number-swap m n i) (Some at) None))
      ∙ by c m (same_const k c) (nat_eq n m)
    where
      by : (c : ConstId) (m : ℕ) (a b : Bool) → option_or (source_in es c m) (cond (a && b) (Some at) None) ≡ option_or (source_in es c m) (cond (a && (b && contains s n)) (Some at) None)
      by c m true true = ap (λ d. option_or (source_in es c m) (cond d (Some at) None)) (sym has)
      by c m true false = refl
      by c m false b = refl
