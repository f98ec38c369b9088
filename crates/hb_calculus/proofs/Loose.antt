-- Variables from outside, along steps and eta contractions.
use Rattle.std.proofs.Common.{◌≡◌, sym, subst, ℕ, zero, suc, ◌+◌, ◌<◌, ◌≤◌, List, [], ◌∷◌, ◌++◌, length, arith}
use Rattle.std.specs.Prelude.{Some, slice_get, option_map}
use Rattle.std.proofs.lemmas.Option.{none-some}
use Rattle.std.proofs.lemmas.Bool.Decides.{nat_tests}
use Rattle.hb_tree.specs.Tree.{Tree, sort, rel, pi, lam, app, const, proj, hole, lift, subst_at, loose, apply}
use Rattle.hb_tree.specs.declared.leaves.RecId.{RecId}
use Rattle.hb_tree.proofs.Sizes.{loose_subst}
use Rattle.hb_calculus.specs.Declarations.{Decl}
use Rattle.hb_calculus.specs.Telescopes.{maker, projections}
use Rattle.hb_calculus.specs.Scope.{AreBodiesClosed}
use Rattle.hb_calculus.specs.Step as one
use Rattle.hb_calculus.specs.Step.{Contracts, beta, delta, projection, Step, in_domain, in_codomain, in_binder, in_body, in_function, in_argument, in_projected, Steps, done, more}
use Rattle.hb_calculus.specs.Conversion.{EtaContracts, eta, record_eta}
use Rattle.hb_calculus.specs.Contraction.{eta_of, next, next_eta}
use Rattle.hb_calculus.specs.Sequence.{Stage, stepping, contracting, term_at, move, iterate, sequence, IsNormalForm, IsHeadForm}
use Rattle.hb_calculus.proofs.Options.{Some-injective, of-mapped, either-of}
use Rattle.hb_calculus.proofs.Etas.{eta-rule}
use Rattle.hb_calculus.proofs.Leftmost.{Kept, leftmost-kept}
use Rattle.hb_calculus.proofs.Sequences.{next-step, iterate-before, head_form-steps}

-- no variable of the terms is past m
abbrev AreLoose : ℕ → List Tree → Type 0
AreLoose m [] = Unit {0}
AreLoose m (t ∷ ts) = (loose t ≤ m) × AreLoose m ts

applied-loose : (m : ℕ) (f : Tree) (xs : List Tree) → loose (apply f xs) ≤ m → (loose f ≤ m) × AreLoose m xs
applied-loose m f [] h = (h, tt)
applied-loose m f (x ∷ xs) h =
    let p = applied-loose m (app f x) xs h in
    let q = p.0 in
    (omega arith, (omega arith, p.1))

behind-loose : (m : ℕ) (xs ys : List Tree) → AreLoose m (xs ++ ys) → AreLoose m ys
behind-loose m [] ys h = h
behind-loose m (x ∷ xs) ys h = behind-loose m xs ys h.1

at-loose : (m : ℕ) (xs : List Tree) (i : ℕ) (u : Tree) → slice_get xs i ≡ Some u → AreLoose m xs → loose u ≤ m
at-loose m [] i u e h = absurd (none-some u e)
at-loose m (x ∷ xs) zero u e h = subst (λ y. loose y ≤ m) (Some-injective x u e) h.0
at-loose m (x ∷ xs) (suc i) u e h = at-loose m xs i u e h.1

first-loose : (m : ℕ) (r : RecId) (i n : ℕ) (t : Tree) → 0 < n → AreLoose m (projections r i n t) → loose t ≤ m
first-loose m r i zero t l h = absurd (let k : ⊥ = omega arith in k)
first-loose m r i (suc n) t l h = h.0

unlift-loose : (t : Tree) (n k m : ℕ) → k ≤ m → loose (lift t n k) ≤ m + n → loose t ≤ m
unlift-loose (sort s) n k m l h = omega arith
unlift-loose (rel v) n k m l h = grind (arith, nat_tests)
unlift-loose (pi a b) n k m l h =
    omega (arith, unlift-loose a n k m l (omega arith), unlift-loose b n (k + 1) (m + 1) (omega arith) (omega arith))
unlift-loose (lam a b) n k m l h =
    omega (arith, unlift-loose a n k m l (omega arith), unlift-loose b n (k + 1) (m + 1) (omega arith) (omega arith))
unlift-loose (app f a) n k m l h = omega (arith, unlift-loose f n k m l (omega arith), unlift-loose a n k m l (omega arith))
unlift-loose (const c) n k m l h = omega arith
unlift-loose (proj r i t) n k m l h = unlift-loose t n k m l h
unlift-loose (hole g) n k m l h = omega arith

module _ (E : List Decl) (closed : AreBodiesClosed E) where
  Contracts-loose : {t u : Tree} (m : ℕ) → Contracts E t u → loose t ≤ m → loose u ≤ m
  Contracts-loose m (beta {a = a} {b = b} {v = v} {u = u} e) h =
      let k : loose (subst_at b v 0) ≤ m = loose_subst b v 0 m (omega arith) (omega arith) (omega arith) in
      subst (λ x. loose x ≤ m) (sym e) k
  Contracts-loose m (delta {c = c} {u = u} n e) h = let k = closed c.decl u e in omega arith
  Contracts-loose m (projection {r = r} {i = i} {t = t} {u = u} qs fs e p q k g) h =
      let args = (applied-loose m (maker r.0) (qs ++ fs) (subst (λ x. loose x ≤ m) k h)).1 in
      at-loose m fs i u g (behind-loose m qs fs args)

  pub Step-loose : {t u : Tree} (m : ℕ) → Step E t u → loose t ≤ m → loose u ≤ m
  Step-loose m (one.here s) h = Contracts-loose m s h
  Step-loose m (in_domain s) h = let k = Step-loose m s (omega arith) in omega arith
  Step-loose m (in_codomain s) h = let k = Step-loose (m + 1) s (omega arith) in omega arith
  Step-loose m (in_binder s) h = let k = Step-loose m s (omega arith) in omega arith
  Step-loose m (in_body s) h = let k = Step-loose (m + 1) s (omega arith) in omega arith
  Step-loose m (in_function s) h = let k = Step-loose m s (omega arith) in omega arith
  Step-loose m (in_argument s) h = let k = Step-loose m s (omega arith) in omega arith
  Step-loose m (in_projected s) h = Step-loose m s h

  pub Steps-loose : {t u : Tree} (m : ℕ) → Steps E t u → loose t ≤ m → loose u ≤ m
  Steps-loose m done h = h
  Steps-loose m (more s r) h = Steps-loose m r (Step-loose m s h)

  EtaContracts-loose : {t u : Tree} (m : ℕ) → EtaContracts E t u → loose t ≤ m → loose u ≤ m
  EtaContracts-loose m (eta {a = a} {b = b} {t = t} e) h =
      let k : loose (app (lift t 1 0) (rel 0)) ≤ m + 1 = subst (λ x. loose x ≤ m + 1) e (let g : loose b ≤ m + 1 = omega arith in g) in
      unlift-loose t 1 0 m (omega arith) (omega arith)
  EtaContracts-loose m (record_eta {t = t} {u = u} r {R = R} qs e p l k) h =
      let args = (applied-loose m (maker r.0) (qs ++ projections r 0 (length R.fields) t) (subst (λ x. loose x ≤ m) k h)).1 in
      first-loose m r 0 (length R.fields) t l (behind-loose m qs _ args)

  KeepsLoose : Tree → Tree → Type 0
  KeepsLoose t u = (m : ℕ) → loose t ≤ m → loose u ≤ m

  etas-kept : Kept (eta_of E) KeepsLoose
  unfolding KeepsLoose
  etas-kept =
      record {
        by_rule = λ t u e m h. EtaContracts-loose m (eta-rule E t u e) h;
        domain = λ a a' b k m h. let g = k m (omega arith) in omega arith;
        codomain = λ a b b' k m h. let g = k (m + 1) (omega arith) in omega arith;
        binder = λ a a' b k m h. let g = k m (omega arith) in omega arith;
        body = λ a b b' k m h. let g = k (m + 1) (omega arith) in omega arith;
        function = λ f f' a k m h. let g = k m (omega arith) in omega arith;
        argument = λ f a a' k m h. let g = k m (omega arith) in omega arith;
        projected = λ r i t t' k m h. k m h;
      }

  next_eta-loose : (m : ℕ) (t u : Tree) → next_eta E t ≡ Some u → loose t ≤ m → loose u ≤ m
  unfolding KeepsLoose
  next_eta-loose m t u e h = leftmost-kept (eta_of E) KeepsLoose etas-kept t u e m h

  move-loose : (m : ℕ) (s z : Stage) → move E s ≡ Some z → loose (term_at s) ≤ m → loose (term_at z) ≤ m
  move-loose m (stepping t) z e h =
      either-of
      (option_map stepping (next E t)) (option_map contracting (next_eta E t)) z
      (of-mapped stepping (next E t) z (λ x g p. subst (λ y. loose (term_at y) ≤ m) (sym p) (Step-loose m (next-step E t x g) h)))
      (of-mapped contracting (next_eta E t) z (λ x g p. subst (λ y. loose (term_at y) ≤ m) (sym p) (next_eta-loose m t x g h)))
      e
  move-loose m (contracting t) z e h =
      of-mapped contracting (next_eta E t) z (λ x g p. subst (λ y. loose (term_at y) ≤ m) (sym p) (next_eta-loose m t x g h)) e

  moves-loose : (n m : ℕ) (s z : Stage) → iterate (move E) n s ≡ Some z → loose (term_at s) ≤ m → loose (term_at z) ≤ m
  moves-loose zero m s z e h = subst (λ y. loose (term_at y) ≤ m) (Some-injective s z e) h
  moves-loose (suc n) m s z e h =
      let p = iterate-before (move E) n s z e in move-loose m p.0 z p.2 (moves-loose n m s p.0 p.1 h)

  pub sequence-loose : (n m : ℕ) (t u : Tree) → sequence E t n ≡ Some u → loose t ≤ m → loose u ≤ m
  sequence-loose n m t u e h =
      of-mapped term_at (iterate (move E) n (stepping t)) u
      (λ z g p. subst (λ x. loose x ≤ m) (sym p) (moves-loose n m (stepping t) z g h))
      e

  pub normal_form-loose : (m : ℕ) (t u : Tree) → IsNormalForm E t u → loose t ≤ m → loose u ≤ m
  normal_form-loose m t u f h = sequence-loose f.count m t u f.at h

  pub head_form-loose : (m : ℕ) (t u : Tree) → IsHeadForm E t u → loose t ≤ m → loose u ≤ m
  head_form-loose m t u f h = Steps-loose m (head_form-steps E t u f) h
