-- A term without holes: filling changes nothing, and neither does making it a value where no variable is cut off.
use Rattle.std.proofs.Common.{◌≡◌, ℕ, Bool, true, false, List, Some, ◌+◌, ◌≤◌, refl, arith}
use Rattle.std.proofs.lemmas.Bool.Decides.{nat_tests}
use native.Mathlib.Numerals.{unary_clauses}
use Rattle.std.specs.Prelude.{nat_lt}
use Rattle.hb_tree.specs.Tree.{Tree, sort, rel, pi, lam, app, const, proj, hole, loose, has_hole}
use Rattle.hb_tree.proofs.Neither.{first_not, second_not}
use Rattle.hb_holes.specs.Holes.{Place, filled, as_value, lowered_at}

pub filled_shared : (t : Tree) (H : List Place) (n : ℕ) → has_hole t ≡ false → filled H n t ≡ t
filled_shared (sort s) H n h = refl
filled_shared (rel v) H n h = refl
filled_shared (pi a b) H n h = λ i. pi (filled_shared a H n (first_not (has_hole a) (has_hole b) h) i) (filled_shared b H (n + 1) (second_not (has_hole a) (has_hole b) h) i)
filled_shared (lam a b) H n h = λ i. lam (filled_shared a H n (first_not (has_hole a) (has_hole b) h) i) (filled_shared b H (n + 1) (second_not (has_hole a) (has_hole b) h) i)
filled_shared (app f a) H n h = λ i. app (filled_shared f H n (first_not (has_hole f) (has_hole a) h) i) (filled_shared a H n (second_not (has_hole f) (has_hole a) h) i)
filled_shared (const c) H n h = refl
filled_shared (proj r x t) H n h = λ i. proj r x (filled_shared t H n h i)
filled_shared (hole x) H n h = absurd (cc)

-- a variable that is bound inside, or none is cut off
lowered_below : (k c v : ℕ) → v + 1 ≤ k → lowered_at k c v ≡ Some (rel v)
lowered_below k c v h = let e : nat_lt v k ≡ true = grind (arith, nat_tests) in rw (e) refl

lowered_none : (k v : ℕ) → lowered_at k 0 v ≡ Some (rel v)
lowered_none k v = by (nat_lt v k) refl
  where
    by : (b : Bool) → nat_lt v k ≡ b → lowered_at k 0 v ≡ Some (rel v)
    by true e = rw (e) refl
    by false e = let f : nat_lt v (k + 0) ≡ false = grind (arith, nat_tests, e) in rw (e, f) (simp unary_clauses refl)

pub closed_value : (t : Tree) (H : List Place) (i d c k : ℕ) → has_hole t ≡ false → loose t ≤ k → as_value H i d c k t ≡ Some t
closed_value (sort s) H i d c k h l = refl
closed_value (rel v) H i d c k h l = lowered_below k c v l
closed_value (pi a b) H i d c k h l = rw (closed_value a H i d c k (first_not (has_hole a) (has_hole b) h) (omega arith), closed_value b H i d c (k + 1) (second_not (has_hole a) (has_hole b) h) (omega arith)) refl
closed_value (lam a b) H i d c k h l = rw (closed_value a H i d c k (first_not (has_hole a) (has_hole b) h) (omega arith), closed_value b H i d c (k + 1) (second_not (has_hole a) (has_hole b) h) (omega arith)) refl
closed_value (app f a) H i d c k h l = rw (closed_value f H i d c k (first_not (has_hole f) (has_hole a) h) (omega arith), closed_value a H i d c k (second_not (has_hole f) (has_hole a) h) (omega arith)) refl
closed_value (const b) H i d c k h l = refl
closed_value (proj r x t) H i d c k h l = rw (closed_value t H i d c k h l) refl
closed_value (hole x) H i d c k h l = absurd (cc)

pub uncut_value : (t : Tree) (H : List Place) (i d c k : ℕ) → has_hole t ≡ false → c ≡ 0 → as_value H i d c k t ≡ Some t
uncut_value t H i d c k h z = rw (z) (go t k h)
  where
    go : (t : Tree) (k : ℕ) → has_hole t ≡ false → as_value H i d 0 k t ≡ Some t
    go (sort s) k h = refl
    go (rel v) k h = lowered_none k v
    go (pi a b) k h = rw (go a k (first_not (has_hole a) (has_hole b) h), go b (k + 1) (second_not (has_hole a) (has_hole b) h)) refl
    go (lam a b) k h = rw (go a k (first_not (has_hole a) (has_hole b) h), go b (k + 1) (second_not (has_hole a) (has_hole b) h)) refl
    go (app f a) k h = rw (go f k (first_not (has_hole f) (has_hole a) h), go a k (second_not (has_hole f) (has_hole a) h)) refl
    go (const b) k h = refl
    go (proj r x t) k h = rw (go t k h) refl
    go (hole x) k h = absurd (cc)
