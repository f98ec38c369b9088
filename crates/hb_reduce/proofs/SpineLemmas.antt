-- Arguments from the last one back.
use Rattle.std.proofs.Common.{◌≡◌, ◌∙◌, sym, refl, ap, ℕ, zero, suc, ◌+◌, ◌<◌, true≢false, List, [], ◌∷◌, ◌++◌, length, length-append, append_assoc, append-nil, arith, eq-eqb, IsTrue, ◌↔◌}
use Rattle.std.specs.Prelude.{Some, slice_get, Bool, true, false, not, ◌&&◌, ◌==◌}
use Rattle.hb_tree.specs.Tree.{Tree, sort, rel, pi, lam, app, const, proj, hole, args_of, apply}
use Rattle.hb_tree.specs.declared.leaves.RecId.{RecId}
use Rattle.hb_calculus.specs.Telescopes.{projections}
use Rattle.hb_calculus.specs.Contraction.{same_tree}
use Rattle.hb_calculus.proofs.Options.{both}
use Rattle.hb_calculus.proofs.Same.{trees-same, tree-itself, both-true}
use Rattle.hb_calculus.proofs.Spines.{apply-append}
use Rattle.hb_reduce.specs.Spines.{argument, ends_with}

-- a test that tells the same terms is the test of the definitions
pub tells-same : (b : Bool) (t u : Tree) → (IsTrue b ↔ (t ≡ u)) → b ≡ same_tree t u
tells-same true t u h = sym (ap (λ x. same_tree t x) (sym (h.0 refl)) ∙ tree-itself t)
tells-same false t u h = go (same_tree t u) refl
  where
    go : (c : Bool) → same_tree t u ≡ c → false ≡ same_tree t u
    go true e = absurd (true≢false (sym (h.1 (trees-same t u e))))
    go false e = sym e

-- argument i stands before the last ones
at-end : (xs : List Tree) (a : Tree) (j : ℕ) → j ≡ length xs → slice_get (xs ++ a ∷ []) j ≡ Some a
at-end [] a zero e = refl
at-end [] a (suc j) e = absurd (let k : ⊥ = omega arith in k)
at-end (x ∷ xs) a zero e = absurd (let k : ⊥ = omega arith in k)
at-end (x ∷ xs) a (suc j) e = at-end xs a j (omega arith)

before-end : (xs : List Tree) (a : Tree) (j : ℕ) → j < length xs → slice_get (xs ++ a ∷ []) j ≡ slice_get xs j
before-end [] a j h = absurd (let k : ⊥ = omega arith in k)
before-end (x ∷ xs) a zero h = refl
before-end (x ∷ xs) a (suc j) h = before-end xs a j (omega arith)

pub argument-at : (t : Tree) (n j : ℕ) → n + j + 1 ≡ length (args_of t) → argument t n ≡ slice_get (args_of t) j
argument-at (app f a) zero j e =
    let l : length (args_of f ++ a ∷ []) ≡ length (args_of f) + 1 = length-append (args_of f) (a ∷ []) in
    sym (at-end (args_of f) a j (omega arith))
argument-at (app f a) (suc n) j e =
    let l : length (args_of f ++ a ∷ []) ≡ length (args_of f) + 1 = length-append (args_of f) (a ∷ []) in
    argument-at f n j (omega arith) ∙ sym (before-end (args_of f) a j (omega arith))
argument-at (sort s) n j e = absurd (let k : ⊥ = omega arith in k)
argument-at (rel v) n j e = absurd (let k : ⊥ = omega arith in k)
argument-at (pi a b) n j e = absurd (let k : ⊥ = omega arith in k)
argument-at (lam a b) n j e = absurd (let k : ⊥ = omega arith in k)
argument-at (const c) n j e = absurd (let k : ⊥ = omega arith in k)
argument-at (proj r i t) n j e = absurd (let k : ⊥ = omega arith in k)
argument-at (hole h) n j e = absurd (let k : ⊥ = omega arith in k)

-- the projections with the last one at the end
projections-last : (r : RecId) (i n : ℕ) (u : Tree) → projections r i (suc n) u ≡ projections r i n u ++ proj r (i + n) u ∷ []
projections-last r i zero u = let e : i ≡ i + 0 = omega arith in ap (λ k. proj r k u ∷ []) e
projections-last r i (suc n) u =
    let e : (i + 1) + n ≡ i + suc n = omega arith in
    ap (λ xs. proj r i u ∷ xs) (projections-last r (i + 1) n u ∙ ap (λ k. projections r (i + 1) n u ++ proj r k u ∷ []) e)

pub projections-end : (r : RecId) (n : ℕ) (u : Tree) → projections r 0 (suc n) u ≡ projections r 0 n u ++ proj r n u ∷ []
projections-end r n u = let e : 0 + n ≡ n = omega arith in projections-last r 0 n u ∙ ap (λ k. projections r 0 n u ++ proj r k u ∷ []) e

pub applied-end : (g : Tree) (ys : List Tree) (r : RecId) (n : ℕ) (u : Tree)
    → apply g (ys ++ projections r 0 (suc n) u) ≡ app (apply g (ys ++ projections r 0 n u)) (proj r n u)
applied-end g ys r n u =
    ap (λ xs. apply g (ys ++ xs)) (projections-end r n u)
    ∙ ap (apply g) (sym (append_assoc ys (projections r 0 n u) (proj r n u ∷ [])))
    ∙ apply-append g (ys ++ projections r 0 n u) (proj r n u ∷ [])

-- an application to projections at its end, and back
pub ends-made : (g : Tree) (ys : List Tree) (r : RecId) (n : ℕ) (u : Tree) → ends_with (apply g (ys ++ projections r 0 n u)) r n u ≡ true
ends-made g ys r zero u = refl
ends-made g ys r (suc n) u =
    ap (λ t. ends_with t r (suc n) u) (applied-end g ys r n u)
    ∙ both-true (same_tree (proj r n u) (proj r n u)) _ (tree-itself (proj r n u)) (ends-made g ys r n u)

pub made-ends : (t : Tree) (r : RecId) (n : ℕ) (u : Tree) → ends_with t r n u ≡ true → (ys : List Tree) × (args_of t ≡ ys ++ projections r 0 n u)
made-ends t r zero u e = (args_of t, sym (append-nil (args_of t)))
made-ends (app f a) r (suc n) u e =
    let p = both (same_tree a (proj r n u)) (ends_with f r n u) e in
    let q = made-ends f r n u p.1 in (
      q.0,
      (λ i. q.1 i ++ trees-same a (proj r n u) p.0 i ∷ [])
          ∙ append_assoc q.0 (projections r 0 n u) (proj r n u ∷ [])
          ∙ ap (λ xs. q.0 ++ xs) (sym (projections-end r n u)),
    )
made-ends (sort s) r (suc n) u e = absurd (true≢false (sym e))
made-ends (rel v) r (suc n) u e = absurd (true≢false (sym e))
made-ends (pi a b) r (suc n) u e = absurd (true≢false (sym e))
made-ends (lam a b) r (suc n) u e = absurd (true≢false (sym e))
made-ends (const c) r (suc n) u e = absurd (true≢false (sym e))
made-ends (proj s i t) r (suc n) u e = absurd (true≢false (sym e))
made-ends (hole h) r (suc n) u e = absurd (true≢false (sym e))

-- a projection is told by its record, its field and its term
pub tells-projection :
    (b : Bool) (part t of : Tree) (r rec : RecId) (i j field : ℕ) → part ≡ proj r i t → false ≡ not (r.0 == rec.0) → j ≡ field → j ≡ i
    → (IsTrue b ↔ (t ≡ of)) → b ≡ same_tree part (proj rec field of)
tells-projection b part t of r rec i j field e f g k h =
    let records : (r.0 == rec.0) ≡ true = not-false (r.0 == rec.0) f in
    tells-same b t of h
    ∙ sym
    (ap (λ x. same_tree x (proj rec field of)) e
    ∙ ap (λ x. (x && (i == field)) && same_tree t of) records
    ∙ ap (λ x. x && same_tree t of) (eq-eqb i field (sym k ∙ g)))
  where
    not-false : (c : Bool) → false ≡ not c → c ≡ true
    not-false true x = refl
    not-false false x = absurd (true≢false (sym x))
