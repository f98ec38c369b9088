-- What lifting and substituting make of a variable, by its place.
use Rattle.std.proofs.Common.{◌≡◌, ℕ, true, false, ◌+◌, ◌-◌, ◌<◌, ◌≤◌, ◌==◌, nat_lt, arith, ◌⊎◌, inl, inr}
use Rattle.std.proofs.lemmas.Bool.{cases_order}
use Rattle.std.proofs.lemmas.Bool.Decides.{nat_tests}
use Rattle.hb_tree.specs.Tree.{Tree, rel, lift, subst_at}

-- where a variable stands beside a place
pub data Place (v k : ℕ) : Type 0 where
  below : v < k → Place v k
  here : v ≡ k → Place v k
  above : k < v → Place v k

place_of : {v k : ℕ} → ((v ≡ k) ⊎ ((v < k) ⊎ (k < v))) → Place v k
place_of (inl e) = here e
place_of (inr (inl h)) = below h
place_of (inr (inr h)) = above h

pub place : (v k : ℕ) → Place v k
place v k = place_of (cases_order v k)

-- whether a place is passed
pub data Side (v k : ℕ) : Type 0 where
  inside : v < k → Side v k
  outside : k ≤ v → Side v k

side_of : {v k : ℕ} → Place v k → Side v k
side_of (below h) = inside h
side_of (here e) = outside (omega arith)
side_of (above h) = outside (omega arith)

pub side : (v k : ℕ) → Side v k
side v k = side_of (place v k)

pub lift_below : (v n k : ℕ) → v < k → lift (rel v) n k ≡ rel v
lift_below v n k h =
    let e : nat_lt v k ≡ true = grind (arith, nat_tests) in
    rw e

pub lift_above : (v n k : ℕ) → k ≤ v → lift (rel v) n k ≡ rel (v + n)
lift_above v n k h =
    let e : nat_lt v k ≡ false = grind (arith, nat_tests) in
    rw e

pub subst_below : (v : ℕ) (a : Tree) (k : ℕ) → v < k → subst_at (rel v) a k ≡ rel v
subst_below v a k h =
    let e : nat_lt v k ≡ true = grind (arith, nat_tests) in
    rw e

pub subst_here : (v : ℕ) (a : Tree) (k : ℕ) → v ≡ k → subst_at (rel v) a k ≡ lift a k 0
subst_here v a k h =
    let e : nat_lt v k ≡ false = grind (arith, nat_tests) in
    let f : (v == k) ≡ true = grind (arith, nat_tests) in
    rw (e, f)

pub subst_above : (v : ℕ) (a : Tree) (k : ℕ) → k < v → subst_at (rel v) a k ≡ rel (v - 1)
subst_above v a k h =
    let e : nat_lt v k ≡ false = grind (arith, nat_tests) in
    let f : (v == k) ≡ false = grind (arith, nat_tests) in
    rw (e, f)
