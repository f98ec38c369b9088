-- The laws of lifting, in their general form: by induction on the term.
use Rattle.std.proofs.Common.{◌≡◌, ℕ, ◌+◌, ◌≤◌, nat_lt, cond, refl, ap, arith}
use Rattle.std.proofs.lemmas.Bool.Decides.{nat_tests}
use Rattle.hb_tree.specs.Tree.{Tree, sort, rel, pi, lam, app, const, proj, hole, lift}

pub lift_zero : (t : Tree) (k : ℕ) → lift t 0 k ≡ t
lift_zero (sort s) k = refl
lift_zero (rel v) k = let e : cond (nat_lt v k) v (v + 0) ≡ v = grind (arith, nat_tests) in ap rel e
lift_zero (pi a b) k = λ i. pi (lift_zero a k i) (lift_zero b (k + 1) i)
lift_zero (lam a b) k = λ i. lam (lift_zero a k i) (lift_zero b (k + 1) i)
lift_zero (app f a) k = λ i. app (lift_zero f k i) (lift_zero a k i)
lift_zero (const c) k = refl
lift_zero (proj r n t) k = λ i. proj r n (lift_zero t k i)
lift_zero (hole h) k = refl

-- the second lift stands inside of what the first has put in
pub lift_lift : (t : Tree) (m n k j : ℕ) → k ≤ j → j ≤ k + m → lift (lift t m k) n j ≡ lift t (m + n) k
lift_lift (sort s) m n k j h g = refl
lift_lift (rel v) m n k j h g =
    let w = cond (nat_lt v k) v (v + m) in
    let e : cond (nat_lt w j) w (w + n) ≡ cond (nat_lt v k) v (v + (m + n)) = grind (arith, nat_tests) in
    ap rel e
lift_lift (pi a b) m n k j h g = λ i. pi (lift_lift a m n k j h g i) (lift_lift b m n (k + 1) (j + 1) (omega arith) (omega arith) i)
lift_lift (lam a b) m n k j h g = λ i. lam (lift_lift a m n k j h g i) (lift_lift b m n (k + 1) (j + 1) (omega arith) (omega arith) i)
lift_lift (app f a) m n k j h g = λ i. app (lift_lift f m n k j h g i) (lift_lift a m n k j h g i)
lift_lift (const c) m n k j h g = refl
lift_lift (proj r p t) m n k j h g = λ i. proj r p (lift_lift t m n k j h g i)
lift_lift (hole x) m n k j h g = refl

-- the places of two lifts, the second further out
pub lift_swap : (t : Tree) (m n k j p : ℕ) → k ≤ j → p ≡ j + m → lift (lift t m k) n p ≡ lift (lift t n j) m k
lift_swap (sort s) m n k j p h e = refl
lift_swap (rel v) m n k j p h e =
    let w = cond (nat_lt v k) v (v + m) in
    let u = cond (nat_lt v j) v (v + n) in
    let q : cond (nat_lt w p) w (w + n) ≡ cond (nat_lt u k) u (u + m) = grind (arith, nat_tests) in
    ap rel q
lift_swap (pi a b) m n k j p h e = λ i. pi (lift_swap a m n k j p h e i) (lift_swap b m n (k + 1) (j + 1) (p + 1) (omega arith) (omega arith) i)
lift_swap (lam a b) m n k j p h e = λ i. lam (lift_swap a m n k j p h e i) (lift_swap b m n (k + 1) (j + 1) (p + 1) (omega arith) (omega arith) i)
lift_swap (app f a) m n k j p h e = λ i. app (lift_swap f m n k j p h e i) (lift_swap a m n k j p h e i)
lift_swap (const c) m n k j p h e = refl
lift_swap (proj r x t) m n k j p h e = λ i. proj r x (lift_swap t m n k j p h e i)
lift_swap (hole x) m n k j p h e = refl
