-- What lifting and substituting make of scope and size.
use Rattle.std.proofs.Common.{◌≡◌, ℕ, false, ◌+◌, ◌≤◌, ◌||◌, nat_lt, cond, refl, arith}
use Rattle.std.proofs.lemmas.Bool.Decides.{nat_tests}
use Rattle.hb_tree.specs.Tree.{Tree, sort, rel, pi, lam, app, const, proj, hole, lift, subst_at, loose, nodes, depth, has_hole}
use Rattle.hb_tree.proofs.Neither.{neither, first_not, second_not}
use Rattle.hb_tree.proofs.Variables.{Place, below, here, above, place, subst_below, subst_here, subst_above}

pub nodes_lift : (t : Tree) (n k : ℕ) → nodes (lift t n k) ≡ nodes t
nodes_lift (sort s) n k = refl
nodes_lift (rel v) n k = refl
nodes_lift (pi a b) n k = omega (arith, nodes_lift a n k, nodes_lift b n (k + 1))
nodes_lift (lam a b) n k = omega (arith, nodes_lift a n k, nodes_lift b n (k + 1))
nodes_lift (app f a) n k = omega (arith, nodes_lift f n k, nodes_lift a n k)
nodes_lift (const c) n k = refl
nodes_lift (proj r x t) n k = omega (arith, nodes_lift t n k)
nodes_lift (hole x) n k = refl

pub depth_lift : (t : Tree) (n k : ℕ) → depth (lift t n k) ≡ depth t
depth_lift (sort s) n k = refl
depth_lift (rel v) n k = refl
depth_lift (pi a b) n k = omega (arith, depth_lift a n k, depth_lift b n (k + 1))
depth_lift (lam a b) n k = omega (arith, depth_lift a n k, depth_lift b n (k + 1))
depth_lift (app f a) n k = omega (arith, depth_lift f n k, depth_lift a n k)
depth_lift (const c) n k = refl
depth_lift (proj r x t) n k = omega (arith, depth_lift t n k)
depth_lift (hole x) n k = refl

-- every variable is at most n further out
pub loose_lift : (t : Tree) (n k m : ℕ) → loose t ≤ m → loose (lift t n k) ≤ m + n
loose_lift (sort s) n k m h = omega arith
loose_lift (rel v) n k m h =
    let e : cond (nat_lt v k) v (v + n) ≤ v + n = grind (arith, nat_tests) in
    omega (arith, e)
loose_lift (pi a b) n k m h = omega (arith, loose_lift a n k m (omega arith), loose_lift b n (k + 1) (m + 1) (omega arith))
loose_lift (lam a b) n k m h = omega (arith, loose_lift a n k m (omega arith), loose_lift b n (k + 1) (m + 1) (omega arith))
loose_lift (app f a) n k m h = omega (arith, loose_lift f n k m (omega arith), loose_lift a n k m (omega arith))
loose_lift (const c) n k m h = omega arith
loose_lift (proj r x t) n k m h = loose_lift t n k m h
loose_lift (hole x) n k m h = omega arith

-- with a value from further out, one variable less
loose_subst_rel : (v : ℕ) (a : Tree) (k m : ℕ) → v ≤ m → k ≤ m → loose a + k ≤ m → Place v k → loose (subst_at (rel v) a k) ≤ m
loose_subst_rel v a k m h g p (below q) = rw (subst_below v a k q) (omega arith)
loose_subst_rel v a k m h g p (here q) = rw (subst_here v a k q) (omega (arith, loose_lift a k 0 (loose a) (omega arith)))
loose_subst_rel v a k m h g p (above q) = rw (subst_above v a k q) (omega arith)

pub loose_subst : (t a : Tree) (k m : ℕ) → loose t ≤ m + 1 → k ≤ m → loose a + k ≤ m → loose (subst_at t a k) ≤ m
loose_subst (sort s) a k m h g p = omega arith
loose_subst (rel v) a k m h g p = loose_subst_rel v a k m (omega arith) g p (place v k)
loose_subst (pi t u) a k m h g p = omega (arith, loose_subst t a k m (omega arith) g p, loose_subst u a (k + 1) (m + 1) (omega arith) (omega arith) (omega arith))
loose_subst (lam t u) a k m h g p = omega (arith, loose_subst t a k m (omega arith) g p, loose_subst u a (k + 1) (m + 1) (omega arith) (omega arith) (omega arith))
loose_subst (app f t) a k m h g p = omega (arith, loose_subst f a k m (omega arith) g p, loose_subst t a k m (omega arith) g p)
loose_subst (const c) a k m h g p = omega arith
loose_subst (proj r x t) a k m h g p = loose_subst t a k m h g p
loose_subst (hole x) a k m h g p = omega arith

-- no hole comes from lifting or substituting
pub has_hole_lift : (t : Tree) (n k : ℕ) → has_hole (lift t n k) ≡ has_hole t
has_hole_lift (sort s) n k = refl
has_hole_lift (rel v) n k = refl
has_hole_lift (pi a b) n k = λ i. has_hole_lift a n k i || has_hole_lift b n (k + 1) i
has_hole_lift (lam a b) n k = λ i. has_hole_lift a n k i || has_hole_lift b n (k + 1) i
has_hole_lift (app f a) n k = λ i. has_hole_lift f n k i || has_hole_lift a n k i
has_hole_lift (const c) n k = refl
has_hole_lift (proj r x t) n k = has_hole_lift t n k
has_hole_lift (hole x) n k = refl

has_hole_subst_rel : (v : ℕ) (a : Tree) (k : ℕ) → has_hole a ≡ false → Place v k → has_hole (subst_at (rel v) a k) ≡ false
has_hole_subst_rel v a k h (below q) = rw (subst_below v a k q)
has_hole_subst_rel v a k h (here q) = rw (subst_here v a k q, has_hole_lift a k 0) h
has_hole_subst_rel v a k h (above q) = rw (subst_above v a k q)

pub has_hole_subst : (t a : Tree) (k : ℕ) → has_hole t ≡ false → has_hole a ≡ false → has_hole (subst_at t a k) ≡ false
has_hole_subst (sort s) a k g h = refl
has_hole_subst (rel v) a k g h = has_hole_subst_rel v a k h (place v k)
has_hole_subst (pi t u) a k g h = neither (has_hole_subst t a k (first_not (has_hole t) (has_hole u) g) h) (has_hole_subst u a (k + 1) (second_not (has_hole t) _ g) h)
has_hole_subst (lam t u) a k g h = neither (has_hole_subst t a k (first_not (has_hole t) (has_hole u) g) h) (has_hole_subst u a (k + 1) (second_not (has_hole t) _ g) h)
has_hole_subst (app f t) a k g h = neither (has_hole_subst f a k (first_not (has_hole f) (has_hole t) g) h) (has_hole_subst t a k (second_not (has_hole f) _ g) h)
has_hole_subst (const c) a k g h = refl
has_hole_subst (proj r x t) a k g h = has_hole_subst t a k g h
has_hole_subst (hole x) a k g h = g
