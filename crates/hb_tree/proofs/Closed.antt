-- A term whose variables are all bound further in than a place: lifting and substituting there change nothing.
use Rattle.std.proofs.Common.{◌≡◌, ℕ, false, ◌+◌, ◌≤◌, refl, arith}
use Rattle.std.proofs.lemmas.Bool.Decides.{nat_tests}
use Rattle.hb_tree.specs.Tree.{Tree, sort, rel, pi, lam, app, const, proj, hole, lift, subst_at, loose, occurs}
use Rattle.hb_tree.specs.Laws.{ClosedStays}
use Rattle.hb_tree.proofs.Neither.{neither}
use Rattle.hb_tree.proofs.Variables.{lift_below, subst_below}

pub lift_closed : (t : Tree) (n k : ℕ) → loose t ≤ k → lift t n k ≡ t
lift_closed (sort s) n k h = refl
lift_closed (rel v) n k h = lift_below v n k (omega arith)
lift_closed (pi a b) n k h = λ i. pi (lift_closed a n k (omega arith) i) (lift_closed b n (k + 1) (omega arith) i)
lift_closed (lam a b) n k h = λ i. lam (lift_closed a n k (omega arith) i) (lift_closed b n (k + 1) (omega arith) i)
lift_closed (app f a) n k h = λ i. app (lift_closed f n k (omega arith) i) (lift_closed a n k (omega arith) i)
lift_closed (const c) n k h = refl
lift_closed (proj r x t) n k h = λ i. proj r x (lift_closed t n k h i)
lift_closed (hole x) n k h = refl

pub subst_closed : (t a : Tree) (k : ℕ) → loose t ≤ k → subst_at t a k ≡ t
subst_closed (sort s) a k h = refl
subst_closed (rel v) a k h = subst_below v a k (omega arith)
subst_closed (pi t u) a k h = λ i. pi (subst_closed t a k (omega arith) i) (subst_closed u a (k + 1) (omega arith) i)
subst_closed (lam t u) a k h = λ i. lam (subst_closed t a k (omega arith) i) (subst_closed u a (k + 1) (omega arith) i)
subst_closed (app f t) a k h = λ i. app (subst_closed f a k (omega arith) i) (subst_closed t a k (omega arith) i)
subst_closed (const c) a k h = refl
subst_closed (proj r x t) a k h = λ i. proj r x (subst_closed t a k h i)
subst_closed (hole x) a k h = refl

pub occurs_closed : (t : Tree) (k : ℕ) → loose t ≤ k → occurs t k ≡ false
occurs_closed (sort s) k h = refl
occurs_closed (rel v) k h = grind (arith, nat_tests)
occurs_closed (pi a b) k h = neither (occurs_closed a k (omega arith)) (occurs_closed b (k + 1) (omega arith))
occurs_closed (lam a b) k h = neither (occurs_closed a k (omega arith)) (occurs_closed b (k + 1) (omega arith))
occurs_closed (app f a) k h = neither (occurs_closed f k (omega arith)) (occurs_closed a k (omega arith))
occurs_closed (const c) k h = refl
occurs_closed (proj r x t) k h = occurs_closed t k h
occurs_closed (hole x) k h = refl

pub closed_stays : (t : Tree) (k : ℕ) → loose t ≤ k → ClosedStays t k
closed_stays t k h = record {
  lifted = λ n. lift_closed t n k h;
  substituted = λ a. subst_closed t a k h;
  absent = λ j g. occurs_closed t j (omega arith);
}
