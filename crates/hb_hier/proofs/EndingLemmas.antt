-- Sections that were ended once: at most as many as there are factories.
use Rattle.std.proofs.Common.{◌≡◌, ℕ, zero, suc, ◌+◌, ◌<◌, ◌≤◌, Bool, true, false, true≢false, cond, ◌||◌, List, [], ◌∷◌, ◌++◌, length, take, refl, sym, subst, ap, ◌∙◌, arith, nat_eq, nat_lt}
use Rattle.std.proofs.lemmas.Bool.Decides.{nat_tests}
use Rattle.hb_hier.specs.Hierarchy.{MOST, Ended, ended}
use Rattle.hb_hier.specs.Keeping.{AreDistinct}

-- how many numbers below n are those of ended factories
count : ℕ → List Ended → ℕ
count zero es = 0
count (suc n) es = count n es + cond (ended es n) 1 0

count-le : (n : ℕ) (es : List Ended) → count n es ≤ n
unfolding count
count-le zero es = omega arith
count-le (suc n) es = step (ended es n) (count n es) n (count-le n es)
  where
    step : (b : Bool) (c n : ℕ) → c ≤ n → c + cond b 1 0 ≤ suc n
    step b c n le = grind (arith, nat_tests)

count-cons : (n : ℕ) (e : Ended) (es : List Ended) → ended es e.factory.0 ≡ false → count n (e ∷ es) ≡ count n es + cond (nat_lt e.factory.0 n) 1 0
unfolding count
count-cons zero e es off = grind (arith, nat_tests)
count-cons (suc n) e es off = step (count n (e ∷ es)) (count n es) (ended es n) (count-cons n e es off) (λ at. ap (ended es) (sym at) ∙ off)
  where
    step : (c d : ℕ) (b : Bool) → c ≡ d + cond (nat_lt e.factory.0 n) 1 0 → (e.factory.0 ≡ n → b ≡ false) → c + cond (nat_eq e.factory.0 n || b) 1 0 ≡ (d + cond b 1 0) + cond (nat_lt e.factory.0 (suc n)) 1 0
    step c d b is same = grind (arith, nat_tests)

length-count : (es : List Ended) → AreDistinct es → length es ≤ count MOST es
length-count [] distinct = omega arith
length-count (e ∷ es) distinct = step (length es) (count MOST es) (count MOST (e ∷ es)) (length-count es distinct.2) (count-cons MOST e es distinct.1) distinct.0
  where
    step : (l c d : ℕ) → l ≤ c → d ≡ c + cond (nat_lt e.factory.0 MOST) 1 0 → e.factory.0 < MOST → suc l ≤ d
    step l c d le is lt = grind (arith, nat_tests)

pub endings-few : (es : List Ended) → AreDistinct es → length es ≤ MOST
endings-few es distinct = omega (arith, length-count es distinct, count-le MOST es)

ended-push : (es : List Ended) (e : Ended) (f : ℕ) → ended es f ≡ false → nat_eq e.factory.0 f ≡ false → ended (es ++ e ∷ []) f ≡ false
ended-push [] e f none off = λ i. off i || false
ended-push (x ∷ es) e f none off = step (nat_eq x.factory.0 f) (ended es f) (ended (es ++ e ∷ []) f) none (λ rest. ended-push es e f rest off)
  where
    step : (a b c : Bool) → (a || b) ≡ false → (b ≡ false → c ≡ false) → (a || c) ≡ false
    step true b c is rest = absurd (true≢false is)
    step false b c is rest = rest is

pub distinct-push : (es : List Ended) (e : Ended) → AreDistinct es → e.factory.0 < MOST → ended es e.factory.0 ≡ false → AreDistinct (es ++ e ∷ [])
distinct-push [] e distinct lt none = (lt, refl, tt)
distinct-push (x ∷ es) e distinct lt none = (
  distinct.0,
  ended-push es e x.factory.0 distinct.1 (turned (nat_eq x.factory.0 e.factory.0) _ none (swap x.factory.0 e.factory.0)),
  distinct-push es e distinct.2 lt (rest (nat_eq x.factory.0 e.factory.0) _ none),
)
  where
    swap : (a b : ℕ) → nat_eq a b ≡ false → nat_eq b a ≡ false
    swap a b is = grind (arith, nat_tests)

    turned : (a b : Bool) → (a || b) ≡ false → (a ≡ false → nat_eq e.factory.0 x.factory.0 ≡ false) → nat_eq e.factory.0 x.factory.0 ≡ false
    turned true b is f = absurd (true≢false is)
    turned false b is f = f refl

    rest : (a b : Bool) → (a || b) ≡ false → b ≡ false
    rest true b is = absurd (true≢false is)
    rest false b is = is

ended-take : (es : List Ended) (n f : ℕ) → ended es f ≡ false → ended (take n es) f ≡ false
ended-take [] zero f none = refl
ended-take [] (suc n) f none = refl
ended-take (x ∷ es) zero f none = refl
ended-take (x ∷ es) (suc n) f none = step (nat_eq x.factory.0 f) (ended es f) (ended (take n es) f) none (λ rest. ended-take es n f rest)
  where
    step : (a b c : Bool) → (a || b) ≡ false → (b ≡ false → c ≡ false) → (a || c) ≡ false
    step true b c is rest = absurd (true≢false is)
    step false b c is rest = rest is

pub distinct-take : (es : List Ended) (n : ℕ) → AreDistinct es → AreDistinct (take n es)
distinct-take [] zero distinct = tt
distinct-take [] (suc n) distinct = tt
distinct-take (x ∷ es) zero distinct = tt
distinct-take (x ∷ es) (suc n) distinct = (distinct.0, ended-take es n x.factory.0 distinct.1, distinct-take es n distinct.2)

pub distinct-after : (es es' : List Ended) (e : Ended) → es' ≡ es ++ e ∷ [] → AreDistinct es → e.factory.0 < MOST → ended es e.factory.0 ≡ false → AreDistinct es'
distinct-after es es' e is distinct lt none = subst AreDistinct (sym is) (distinct-push es e distinct lt none)
