-- The laws of substitution, in their general form: by induction on the term.
use Rattle.std.proofs.Common.{◌≡◌, ℕ, ◌+◌, ◌-◌, ◌≤◌, refl, ap, sym, ◌∙◌, arith}
use Rattle.hb_tree.specs.Tree.{Tree, sort, rel, pi, lam, app, const, proj, hole, lift, subst_at}
use Rattle.hb_tree.proofs.Variables.{Place, below, here, above, place, Side, inside, outside, side, lift_below, lift_above, subst_below, subst_here, subst_above}
use Rattle.hb_tree.proofs.LiftLaws.{lift_lift, lift_swap}

-- a value for a variable that lifting has put in is not used
subst_lift_rel : (v : ℕ) (a : Tree) (n k j : ℕ) → k ≤ j → j ≤ k + n → Side v k → subst_at (lift (rel v) (n + 1) k) a j ≡ lift (rel v) n k
subst_lift_rel v a n k j h g (inside p) =
    ap (λ t. subst_at t a j) (lift_below v (n + 1) k p) ∙ subst_below v a j (omega arith) ∙ sym (lift_below v n k p)
subst_lift_rel v a n k j h g (outside p) =
    let e : v + (n + 1) - 1 ≡ v + n = omega arith in
    ap (λ t. subst_at t a j) (lift_above v (n + 1) k p) ∙ subst_above (v + (n + 1)) a j (omega arith) ∙ ap rel e ∙ sym (lift_above v n k p)

pub subst_lift : (t a : Tree) (n k j : ℕ) → k ≤ j → j ≤ k + n → subst_at (lift t (n + 1) k) a j ≡ lift t n k
subst_lift (sort s) a n k j h g = refl
subst_lift (rel v) a n k j h g = subst_lift_rel v a n k j h g (side v k)
subst_lift (pi t u) a n k j h g = λ i. pi (subst_lift t a n k j h g i) (subst_lift u a n (k + 1) (j + 1) (omega arith) (omega arith) i)
subst_lift (lam t u) a n k j h g = λ i. lam (subst_lift t a n k j h g i) (subst_lift u a n (k + 1) (j + 1) (omega arith) (omega arith) i)
subst_lift (app f t) a n k j h g = λ i. app (subst_lift f a n k j h g i) (subst_lift t a n k j h g i)
subst_lift (const c) a n k j h g = refl
subst_lift (proj r x t) a n k j h g = λ i. proj r x (subst_lift t a n k j h g i)
subst_lift (hole x) a n k j h g = refl

-- a lift further in than the place of the substitution
subst_lift_under_rel : (v : ℕ) (a : Tree) (n k j m : ℕ) → k ≤ j → m ≡ j + n → Side v k → Place v j → subst_at (lift (rel v) n k) a m ≡ lift (subst_at (rel v) a j) n k
subst_lift_under_rel v a n k j m h q (inside p) w =
    ap (λ t. subst_at t a m) (lift_below v n k p) ∙ subst_below v a m (omega arith)
    ∙ sym (ap (λ t. lift t n k) (subst_below v a j (omega arith)) ∙ lift_below v n k p)
subst_lift_under_rel v a n k j m h q (outside p) (below w) =
    ap (λ t. subst_at t a m) (lift_above v n k p) ∙ subst_below (v + n) a m (omega arith)
    ∙ sym (ap (λ t. lift t n k) (subst_below v a j w) ∙ lift_above v n k p)
subst_lift_under_rel v a n k j m h q (outside p) (here w) =
    ap (λ t. subst_at t a m) (lift_above v n k p) ∙ subst_here (v + n) a m (omega arith) ∙ ap (λ x. lift a x 0) q
    ∙ sym (ap (λ t. lift t n k) (subst_here v a j w) ∙ lift_lift a j n 0 k (omega arith) (omega arith))
subst_lift_under_rel v a n k j m h q (outside p) (above w) =
    let e : v + n - 1 ≡ v - 1 + n = omega arith in
    ap (λ t. subst_at t a m) (lift_above v n k p) ∙ subst_above (v + n) a m (omega arith) ∙ ap rel e
    ∙ sym (ap (λ t. lift t n k) (subst_above v a j w) ∙ lift_above (v - 1) n k (omega arith))

pub subst_lift_under : (t a : Tree) (n k j m : ℕ) → k ≤ j → m ≡ j + n → subst_at (lift t n k) a m ≡ lift (subst_at t a j) n k
subst_lift_under (sort s) a n k j m h q = refl
subst_lift_under (rel v) a n k j m h q = subst_lift_under_rel v a n k j m h q (side v k) (place v j)
subst_lift_under (pi t u) a n k j m h q = λ i. pi (subst_lift_under t a n k j m h q i) (subst_lift_under u a n (k + 1) (j + 1) (m + 1) (omega arith) (omega arith) i)
subst_lift_under (lam t u) a n k j m h q = λ i. lam (subst_lift_under t a n k j m h q i) (subst_lift_under u a n (k + 1) (j + 1) (m + 1) (omega arith) (omega arith) i)
subst_lift_under (app f t) a n k j m h q = λ i. app (subst_lift_under f a n k j m h q i) (subst_lift_under t a n k j m h q i)
subst_lift_under (const c) a n k j m h q = refl
subst_lift_under (proj r x t) a n k j m h q = λ i. proj r x (subst_lift_under t a n k j m h q i)
subst_lift_under (hole x) a n k j m h q = refl

-- a lift at the place of the substitution or further out
lift_subst_rel : (v : ℕ) (a : Tree) (n k j m : ℕ) → m ≡ k + j → Place v j → Side v (m + 1) → lift (subst_at (rel v) a j) n m ≡ subst_at (lift (rel v) n (m + 1)) (lift a n k) j
lift_subst_rel v a n k j m q (below h) w =
    ap (λ t. lift t n m) (subst_below v a j h) ∙ lift_below v n m (omega arith)
    ∙ sym (ap (λ t. subst_at t (lift a n k) j) (lift_below v n (m + 1) (omega arith)) ∙ subst_below v (lift a n k) j h)
lift_subst_rel v a n k j m q (here e) w =
    ap (λ t. lift t n m) (subst_here v a j e) ∙ lift_swap a j n 0 k m (omega arith) q
    ∙ sym (ap (λ t. subst_at t (lift a n k) j) (lift_below v n (m + 1) (omega arith)) ∙ subst_here v (lift a n k) j e)
lift_subst_rel v a n k j m q (above h) (inside w) =
    ap (λ t. lift t n m) (subst_above v a j h) ∙ lift_below (v - 1) n m (omega arith)
    ∙ sym (ap (λ t. subst_at t (lift a n k) j) (lift_below v n (m + 1) w) ∙ subst_above v (lift a n k) j h)
lift_subst_rel v a n k j m q (above h) (outside w) =
    let e : v - 1 + n ≡ v + n - 1 = omega arith in
    ap (λ t. lift t n m) (subst_above v a j h) ∙ lift_above (v - 1) n m (omega arith) ∙ ap rel e
    ∙ sym (ap (λ t. subst_at t (lift a n k) j) (lift_above v n (m + 1) w) ∙ subst_above (v + n) (lift a n k) j (omega arith))

pub lift_subst : (t a : Tree) (n k j m : ℕ) → m ≡ k + j → lift (subst_at t a j) n m ≡ subst_at (lift t n (m + 1)) (lift a n k) j
lift_subst (sort s) a n k j m q = refl
lift_subst (rel v) a n k j m q = lift_subst_rel v a n k j m q (place v j) (side v (m + 1))
lift_subst (pi t u) a n k j m q = λ i. pi (lift_subst t a n k j m q i) (lift_subst u a n k (j + 1) (m + 1) (omega arith) i)
lift_subst (lam t u) a n k j m q = λ i. lam (lift_subst t a n k j m q i) (lift_subst u a n k (j + 1) (m + 1) (omega arith) i)
lift_subst (app f t) a n k j m q = λ i. app (lift_subst f a n k j m q i) (lift_subst t a n k j m q i)
lift_subst (const c) a n k j m q = refl
lift_subst (proj r x t) a n k j m q = λ i. proj r x (lift_subst t a n k j m q i)
lift_subst (hole x) a n k j m q = refl

-- two substitutions, the second at the place of the first or further out
subst_subst_rel : (v : ℕ) (a b : Tree) (k j m : ℕ) → m ≡ k + j → Place v j → Place v (m + 1) → subst_at (subst_at (rel v) a j) b m ≡ subst_at (subst_at (rel v) b (m + 1)) (subst_at a b k) j
subst_subst_rel v a b k j m q (below h) w =
    ap (λ t. subst_at t b m) (subst_below v a j h) ∙ subst_below v b m (omega arith)
    ∙ sym (ap (λ t. subst_at t (subst_at a b k) j) (subst_below v b (m + 1) (omega arith)) ∙ subst_below v (subst_at a b k) j h)
subst_subst_rel v a b k j m q (here e) w =
    ap (λ t. subst_at t b m) (subst_here v a j e) ∙ subst_lift_under a b j 0 k m (omega arith) q
    ∙ sym (ap (λ t. subst_at t (subst_at a b k) j) (subst_below v b (m + 1) (omega arith)) ∙ subst_here v (subst_at a b k) j e)
subst_subst_rel v a b k j m q (above h) (below w) =
    ap (λ t. subst_at t b m) (subst_above v a j h) ∙ subst_below (v - 1) b m (omega arith)
    ∙ sym (ap (λ t. subst_at t (subst_at a b k) j) (subst_below v b (m + 1) w) ∙ subst_above v (subst_at a b k) j h)
subst_subst_rel v a b k j m q (above h) (here w) =
    ap (λ t. subst_at t b m) (subst_above v a j h) ∙ subst_here (v - 1) b m (omega arith)
    ∙ sym (ap (λ t. subst_at t (subst_at a b k) j) (subst_here v b (m + 1) w) ∙ subst_lift b (subst_at a b k) m 0 j (omega arith) (omega arith))
subst_subst_rel v a b k j m q (above h) (above w) =
    ap (λ t. subst_at t b m) (subst_above v a j h) ∙ subst_above (v - 1) b m (omega arith)
    ∙ sym (ap (λ t. subst_at t (subst_at a b k) j) (subst_above v b (m + 1) w) ∙ subst_above (v - 1) (subst_at a b k) j (omega arith))

pub subst_subst : (t a b : Tree) (k j m : ℕ) → m ≡ k + j → subst_at (subst_at t a j) b m ≡ subst_at (subst_at t b (m + 1)) (subst_at a b k) j
subst_subst (sort s) a b k j m q = refl
subst_subst (rel v) a b k j m q = subst_subst_rel v a b k j m q (place v j) (place v (m + 1))
subst_subst (pi t u) a b k j m q = λ i. pi (subst_subst t a b k j m q i) (subst_subst u a b k (j + 1) (m + 1) (omega arith) i)
subst_subst (lam t u) a b k j m q = λ i. lam (subst_subst t a b k j m q i) (subst_subst u a b k (j + 1) (m + 1) (omega arith) i)
subst_subst (app f t) a b k j m q = λ i. app (subst_subst f a b k j m q i) (subst_subst t a b k j m q i)
subst_subst (const c) a b k j m q = refl
subst_subst (proj r x t) a b k j m q = λ i. proj r x (subst_subst t a b k j m q i)
subst_subst (hole x) a b k j m q = refl
