-- Steps, conversion and cumulativity are kept where variables are lifted or substituted.
use Rattle.std.proofs.Common.{◌≡◌, ◌∙◌, refl, ap, ℕ, zero, suc, ◌+◌, ◌≤◌, List, [], ◌∷◌, ◌++◌, length, map, true, arith}
use Rattle.std.specs.Prelude.{option_map}
use Rattle.std.proofs.lemmas.List.{length-map, map-append}
use Rattle.std.proofs.lemmas.Option.{slice_get-map}
use Rattle.hb_tree.specs.Tree.{Tree, sort, rel, pi, lam, app, const, proj, hole, lift, subst_at, loose, apply}
use Rattle.hb_tree.specs.declared.leaves.Sort.{Sort}
use Rattle.hb_tree.specs.declared.leaves.ConstId.{ConstId}
use Rattle.hb_tree.specs.declared.leaves.RecId.{RecId}
use Rattle.hb_tree.proofs.Variables.{Place, below, here as at_place, above, place, subst_below, subst_here, subst_above}
use Rattle.hb_tree.proofs.LiftLaws.{lift_swap}
use Rattle.hb_tree.proofs.SubstLaws.{lift_subst, subst_subst, subst_lift_under}
use Rattle.hb_tree.proofs.Closed.{lift_closed, subst_closed}
use Rattle.hb_calculus.specs.Declarations.{Decl}
use Rattle.hb_calculus.specs.Telescopes.{maker, projections}
use Rattle.hb_calculus.specs.Scope.{AreBodiesClosed}
use Rattle.hb_calculus.specs.Step.{Contracts, beta, delta, projection, Step, here, in_domain, in_codomain, in_binder, in_body, in_function, in_argument, in_projected, Steps, done, more}
use Rattle.hb_calculus.specs.Conversion.{EtaContracts, eta, record_eta, Convertible, same, back, chain, by_step, by_eta, of_pi, of_lam, of_app, of_proj, Below, equal, through, sorts, codomains}

-- A map of terms under k binders that goes through every term former, and through lifting and substitution
-- further inside: lifting, and the substitution of a variable.
pub record Moves (at : ℕ → Tree → Tree) : Type 0 where
  pub on_sort : (k : ℕ) (s : Sort) → at k (sort s) ≡ sort s
  pub on_bound : (k : ℕ) → at (k + 1) (rel 0) ≡ rel 0
  pub on_pi : (k : ℕ) (a b : Tree) → at k (pi a b) ≡ pi (at k a) (at (k + 1) b)
  pub on_lam : (k : ℕ) (a b : Tree) → at k (lam a b) ≡ lam (at k a) (at (k + 1) b)
  pub on_app : (k : ℕ) (f a : Tree) → at k (app f a) ≡ app (at k f) (at k a)
  pub on_const : (k : ℕ) (c : ConstId) → at k (const c) ≡ const c
  pub on_proj : (k : ℕ) (r : RecId) (i : ℕ) (t : Tree) → at k (proj r i t) ≡ proj r i (at k t)
  pub on_lifted : (k : ℕ) (t : Tree) → at (k + 1) (lift t 1 0) ≡ lift (at k t) 1 0
  pub on_put : (k : ℕ) (b v : Tree) → at k (subst_at b v 0) ≡ subst_at (at (k + 1) b) (at k v) 0
  pub on_closed : (k : ℕ) (t : Tree) → loose t ≤ 0 → at k t ≡ t

pub lift-moves : (n : ℕ) → Moves (λ k t. lift t n k)
lift-moves n =
    record {
      on_sort = λ k s. refl;
      on_bound = λ k. lift_bound k;
      on_pi = λ k a b. refl;
      on_lam = λ k a b. refl;
      on_app = λ k f a. refl;
      on_const = λ k c. refl;
      on_proj = λ k r i t. refl;
      on_lifted = λ k t. lift_swap t 1 n 0 k (k + 1) (omega arith) refl;
      on_put = λ k b v. lift_subst b v n k 0 k (omega arith);
      on_closed = λ k t h. lift_closed t n k (omega arith);
    }
  where
    lift_bound : (k : ℕ) → lift (rel 0) n (k + 1) ≡ rel 0
    lift_bound k = lift_closed (rel 0) n (k + 1) (omega arith)

pub subst-moves : (a : Tree) → Moves (λ k t. subst_at t a k)
subst-moves a =
    record {
      on_sort = λ k s. refl;
      on_bound = λ k. subst_bound k;
      on_pi = λ k t u. refl;
      on_lam = λ k t u. refl;
      on_app = λ k f t. refl;
      on_const = λ k c. refl;
      on_proj = λ k r i t. refl;
      on_lifted = λ k t. subst_lift_under t a 1 0 k (k + 1) (omega arith) (omega arith);
      on_put = λ k b v. subst_subst b v a k 0 k (omega arith);
      on_closed = λ k t h. subst_closed t a k (omega arith);
    }
  where
    subst_bound : (k : ℕ) → subst_at (rel 0) a (k + 1) ≡ rel 0
    subst_bound k = subst_closed (rel 0) a (k + 1) (omega arith)

module _ (E : List Decl) (closed : AreBodiesClosed E) (at : ℕ → Tree → Tree) (m : Moves at) where
  pub apply-moved : (k : ℕ) (f : Tree) (xs : List Tree) → at k (apply f xs) ≡ apply (at k f) (map (at k) xs)
  apply-moved k f [] = refl
  apply-moved k f (x ∷ xs) = apply-moved k (app f x) xs ∙ ap (λ g. apply g (map (at k) xs)) (m.on_app k f x)

  made-moved : (k r : ℕ) (qs fs : List Tree) → at k (apply (maker r) (qs ++ fs)) ≡ apply (maker r) (map (at k) qs ++ map (at k) fs)
  made-moved k r qs fs =
      apply-moved k (maker r) (qs ++ fs)
      ∙ ap (λ g. apply g (map (at k) (qs ++ fs))) (m.on_const k (record { decl = r; maker = true }))
      ∙ ap (λ xs. apply (maker r) xs) (map-append (at k) qs fs)

  projections-moved : (k : ℕ) (r : RecId) (i n : ℕ) (t : Tree) → map (at k) (projections r i n t) ≡ projections r i n (at k t)
  projections-moved k r i zero t = refl
  projections-moved k r i (suc n) t = λ j. m.on_proj k r i t j ∷ projections-moved k r (i + 1) n t j

  pub Contracts-moved : (k : ℕ) {t u : Tree} → Contracts E t u → Contracts E (at k t) (at k u)
  Contracts-moved k (beta {a = a} {b = b} {v = v} e) =
      rw (m.on_app k (lam a b) v, m.on_lam k a b) (beta (ap (at k) e ∙ m.on_put k b v))
  Contracts-moved k (delta {c = c} {u = u} h e) =
      rw (m.on_const k c, m.on_closed k u (closed c.decl u e)) (delta h e)
  Contracts-moved k (projection {r = r} {i = i} {t = t} {u = u} qs fs e p q h g) =
      rw (m.on_proj k r i t)
      (projection
      (map (at k) qs)
      (map (at k) fs)
      e
      (length-map qs (at k) ∙ p)
      (length-map fs (at k) ∙ q)
      (ap (at k) h ∙ made-moved k r.0 qs fs)
      (slice_get-map (at k) fs i ∙ ap (option_map (at k)) g))

  pub Step-moved : (k : ℕ) {t u : Tree} → Step E t u → Step E (at k t) (at k u)
  Step-moved k (here s) = here (Contracts-moved k s)
  Step-moved k (in_domain {a = a} {a' = a'} {b = b} s) = rw (m.on_pi k a b, m.on_pi k a' b) (in_domain (Step-moved k s))
  Step-moved k (in_codomain {a = a} {b = b} {b' = b'} s) = rw (m.on_pi k a b, m.on_pi k a b') (in_codomain (Step-moved (k + 1) s))
  Step-moved k (in_binder {a = a} {a' = a'} {b = b} s) = rw (m.on_lam k a b, m.on_lam k a' b) (in_binder (Step-moved k s))
  Step-moved k (in_body {a = a} {b = b} {b' = b'} s) = rw (m.on_lam k a b, m.on_lam k a b') (in_body (Step-moved (k + 1) s))
  Step-moved k (in_function {f = f} {f' = f'} {a = a} s) = rw (m.on_app k f a, m.on_app k f' a) (in_function (Step-moved k s))
  Step-moved k (in_argument {f = f} {a = a} {a' = a'} s) = rw (m.on_app k f a, m.on_app k f a') (in_argument (Step-moved k s))
  Step-moved k (in_projected {r = r} {i = i} {t = t} {t' = t'} s) = rw (m.on_proj k r i t, m.on_proj k r i t') (in_projected (Step-moved k s))

  pub Steps-moved : (k : ℕ) {t u : Tree} → Steps E t u → Steps E (at k t) (at k u)
  Steps-moved k done = done
  Steps-moved k (more s r) = more (Step-moved k s) (Steps-moved k r)

  pub EtaContracts-moved : (k : ℕ) {t u : Tree} → EtaContracts E t u → EtaContracts E (at k t) (at k u)
  EtaContracts-moved k (eta {a = a} {b = b} {t = t} e) =
      rw (m.on_lam k a b)
      (eta
      (ap (at (k + 1)) e
      ∙ m.on_app (k + 1) (lift t 1 0) (rel 0)
      ∙ (λ i. app (m.on_lifted k t i) (m.on_bound k i))))
  EtaContracts-moved k (record_eta {t = t} r {R = R} qs e p h q) =
      record_eta
      r
      (map (at k) qs)
      e
      (length-map qs (at k) ∙ p)
      h
      (ap (at k) q
      ∙ made-moved k r.0 qs (projections r 0 (length R.fields) t)
      ∙ ap (λ xs. apply (maker r.0) (map (at k) qs ++ xs)) (projections-moved k r 0 (length R.fields) t))

  pub Convertible-moved : (k : ℕ) {t u : Tree} → Convertible E t u → Convertible E (at k t) (at k u)
  Convertible-moved k same = same
  Convertible-moved k (back c) = back (Convertible-moved k c)
  Convertible-moved k (chain c d) = chain (Convertible-moved k c) (Convertible-moved k d)
  Convertible-moved k (by_step s) = by_step (Step-moved k s)
  Convertible-moved k (by_eta s) = by_eta (EtaContracts-moved k s)
  Convertible-moved k (of_pi {a = a} {a' = a'} {b = b} {b' = b'} c d) =
      rw (m.on_pi k a b, m.on_pi k a' b') (of_pi (Convertible-moved k c) (Convertible-moved (k + 1) d))
  Convertible-moved k (of_lam {a = a} {a' = a'} {b = b} {b' = b'} c d) =
      rw (m.on_lam k a b, m.on_lam k a' b') (of_lam (Convertible-moved k c) (Convertible-moved (k + 1) d))
  Convertible-moved k (of_app {f = f} {f' = f'} {a = a} {a' = a'} c d) =
      rw (m.on_app k f a, m.on_app k f' a') (of_app (Convertible-moved k c) (Convertible-moved k d))
  Convertible-moved k (of_proj {r = r} {i = i} {t = t} {t' = t'} c) =
      rw (m.on_proj k r i t, m.on_proj k r i t') (of_proj (Convertible-moved k c))

  pub Below-moved : (k : ℕ) {t u : Tree} → Below E t u → Below E (at k t) (at k u)
  Below-moved k (equal c) = equal (Convertible-moved k c)
  Below-moved k (through p q) = through (Below-moved k p) (Below-moved k q)
  Below-moved k (sorts {s = s} {s' = s'} h) = rw (m.on_sort k s, m.on_sort k s') (sorts h)
  Below-moved k (codomains {a = a} {a' = a'} {b = b} {b' = b'} c p) =
      rw (m.on_pi k a b, m.on_pi k a' b') (codomains (Convertible-moved k c) (Below-moved (k + 1) p))

-- convertible values may be put in for a variable
module _ (E : List Decl) (closed : AreBodiesClosed E) where
  put-value : (n : ℕ) (v v' : Tree) (k : ℕ) → Convertible E v v' → Place n k → Convertible E (subst_at (rel n) v k) (subst_at (rel n) v' k)
  put-value n v v' k c (below p) = rw (subst_below n v k p, subst_below n v' k p) same
  put-value n v v' k c (at_place p) =
      rw (subst_here n v k p, subst_here n v' k p) (Convertible-moved E closed (λ j t. lift t k j) (lift-moves k) 0 c)
  put-value n v v' k c (above p) = rw (subst_above n v k p, subst_above n v' k p) same

  pub values-put : (t v v' : Tree) (k : ℕ) → Convertible E v v' → Convertible E (subst_at t v k) (subst_at t v' k)
  values-put (sort s) v v' k c = same
  values-put (rel n) v v' k c = put-value n v v' k c (place n k)
  values-put (pi a b) v v' k c = of_pi (values-put a v v' k c) (values-put b v v' (k + 1) c)
  values-put (lam a b) v v' k c = of_lam (values-put a v v' k c) (values-put b v v' (k + 1) c)
  values-put (app f a) v v' k c = of_app (values-put f v v' k c) (values-put a v v' k c)
  values-put (const d) v v' k c = same
  values-put (proj r i t) v v' k c = of_proj (values-put t v v' k c)
  values-put (hole n) v v' k c = same
