-- Terms that name only what is declared, along steps and inferred types.
use Rattle.std.proofs.Common.{◌≡◌, sym, refl, ap, subst, ℕ, zero, suc, ◌+◌, ◌-◌, ◌<◌, ◌≤◌, List, [], ◌∷◌, ◌++◌, length, arith}
use Rattle.std.specs.Prelude.{Option, Some, None, slice_get}
use Rattle.std.proofs.lemmas.Option.{none-some}
use Rattle.hb_tree.specs.Tree.{Tree, sort, rel, pi, lam, app, const, proj, hole, lift, subst_at, head_of, apply}
use Rattle.hb_tree.specs.declared.leaves.RecId.{RecId}
use Rattle.hb_tree.proofs.Variables.{Place, below, here, above, place, subst_below, subst_here, subst_above}
use Rattle.hb_calculus.specs.Declarations.{Decl, an_axiom, a_definition, a_record, Record, body_in, record_in, field_types}
use Rattle.hb_calculus.specs.Telescopes.{products, variables, maker, projections, filled}
use Rattle.hb_calculus.specs.Scope.{IsDeclared, AreDeclared, IsDeclaredEnv}
use Rattle.hb_calculus.specs.Step as one
use Rattle.hb_calculus.specs.Step.{Contracts, beta, delta, projection, Step, in_domain, in_codomain, in_binder, in_body, in_function, in_argument, in_projected, Steps, done, more}
use Rattle.hb_calculus.specs.Conversion.{EtaContracts, eta, record_eta}
use Rattle.hb_calculus.proofs.Options.{Some-injective}

module _ (E : List Decl) where
  pub declared-along : (t u : Tree) → t ≡ u → IsDeclared E t → IsDeclared E u
  declared-along t u e h = subst (λ x. IsDeclared E x) e h

  pub all-along : (ts us : List Tree) → ts ≡ us → AreDeclared E ts → AreDeclared E us
  all-along ts us e h = subst (λ x. AreDeclared E x) e h

  pub declared-lift : (t : Tree) (n k : ℕ) → IsDeclared E t → IsDeclared E (lift t n k)
  declared-lift (sort s) n k h = tt
  declared-lift (rel v) n k h = tt
  declared-lift (pi a b) n k h = (declared-lift a n k h.0, declared-lift b n (k + 1) h.1)
  declared-lift (lam a b) n k h = (declared-lift a n k h.0, declared-lift b n (k + 1) h.1)
  declared-lift (app f a) n k h = (declared-lift f n k h.0, declared-lift a n k h.1)
  declared-lift (const c) n k h = h
  declared-lift (proj r i t) n k h = (h.0, declared-lift t n k h.1)
  declared-lift (hole g) n k h = tt

  pub declared-unlift : (t : Tree) (n k : ℕ) → IsDeclared E (lift t n k) → IsDeclared E t
  declared-unlift (sort s) n k h = tt
  declared-unlift (rel v) n k h = tt
  declared-unlift (pi a b) n k h = (declared-unlift a n k h.0, declared-unlift b n (k + 1) h.1)
  declared-unlift (lam a b) n k h = (declared-unlift a n k h.0, declared-unlift b n (k + 1) h.1)
  declared-unlift (app f a) n k h = (declared-unlift f n k h.0, declared-unlift a n k h.1)
  declared-unlift (const c) n k h = h
  declared-unlift (proj r i t) n k h = (h.0, declared-unlift t n k h.1)
  declared-unlift (hole g) n k h = tt

  declared-put : (v : ℕ) (a : Tree) (k : ℕ) → IsDeclared E a → Place v k → IsDeclared E (subst_at (rel v) a k)
  declared-put v a k h (below p) = declared-along (rel v) _ (sym (subst_below v a k p)) tt
  declared-put v a k h (here p) = declared-along (lift a k 0) _ (sym (subst_here v a k p)) (declared-lift a k 0 h)
  declared-put v a k h (above p) = declared-along (rel (v - 1)) _ (sym (subst_above v a k p)) tt

  pub declared-subst : (t a : Tree) (k : ℕ) → IsDeclared E t → IsDeclared E a → IsDeclared E (subst_at t a k)
  declared-subst (sort s) a k h g = tt
  declared-subst (rel v) a k h g = declared-put v a k g (place v k)
  declared-subst (pi t u) a k h g = (declared-subst t a k h.0 g, declared-subst u a (k + 1) h.1 g)
  declared-subst (lam t u) a k h g = (declared-subst t a k h.0 g, declared-subst u a (k + 1) h.1 g)
  declared-subst (app f t) a k h g = (declared-subst f a k h.0 g, declared-subst t a k h.1 g)
  declared-subst (const c) a k h g = h
  declared-subst (proj r i t) a k h g = (h.0, declared-subst t a k h.1 g)
  declared-subst (hole n) a k h g = tt

  -- lists of terms
  pub all-append : (ts us : List Tree) → AreDeclared E ts → AreDeclared E us → AreDeclared E (ts ++ us)
  all-append [] us h g = g
  all-append (t ∷ ts) us h g = (h.0, all-append ts us h.1 g)

  pub all-before : (ts us : List Tree) → AreDeclared E (ts ++ us) → AreDeclared E ts
  all-before [] us h = tt
  all-before (t ∷ ts) us h = (h.0, all-before ts us h.1)

  pub all-behind : (ts us : List Tree) → AreDeclared E (ts ++ us) → AreDeclared E us
  all-behind [] us h = h
  all-behind (t ∷ ts) us h = all-behind ts us h.1

  pub all-at : (ts : List Tree) (i : ℕ) (u : Tree) → slice_get ts i ≡ Some u → AreDeclared E ts → IsDeclared E u
  all-at [] i u e h = absurd (none-some u e)
  all-at (t ∷ ts) zero u e h = declared-along t u (Some-injective t u e) h.0
  all-at (t ∷ ts) (suc i) u e h = all-at ts i u e h.1

  -- applications
  pub declared-apply : (f : Tree) (xs : List Tree) → IsDeclared E f → AreDeclared E xs → IsDeclared E (apply f xs)
  declared-apply f [] h g = h
  declared-apply f (x ∷ xs) h g = declared-apply (app f x) xs (h, g.0) g.1

  applied : (f : Tree) (xs : List Tree) → IsDeclared E (apply f xs) → IsDeclared E f × AreDeclared E xs
  applied f [] h = (h, tt)
  applied f (x ∷ xs) h = let p = applied (app f x) xs h in (p.0.0, (p.0.1, p.1))

  pub applied-args : (f : Tree) (xs : List Tree) → IsDeclared E (apply f xs) → AreDeclared E xs
  applied-args f xs h = (applied f xs h).1

  pub declared-head : (t : Tree) → IsDeclared E t → IsDeclared E (head_of t)
  declared-head (app f a) h = declared-head f h.0
  declared-head (sort s) h = h
  declared-head (rel v) h = h
  declared-head (pi a b) h = h
  declared-head (lam a b) h = h
  declared-head (const c) h = h
  declared-head (proj r i t) h = h
  declared-head (hole n) h = h

  pub declared-filled : (t : Tree) (vs : List Tree) → IsDeclared E t → AreDeclared E vs → IsDeclared E (filled t vs)
  declared-filled t [] h g = h
  declared-filled t (v ∷ rest) h g = declared-filled (subst_at t v (length rest)) rest (declared-subst t v (length rest) h g.0) g.1

  pub declared-products : (ts : List Tree) (b : Tree) → AreDeclared E ts → IsDeclared E b → IsDeclared E (products ts b)
  declared-products [] b h g = g
  declared-products (t ∷ ts) b h g = (h.0, declared-products ts b h.1 g)

  pub declared-variables : (n m : ℕ) → AreDeclared E (variables n m)
  declared-variables zero m = tt
  declared-variables (suc n) m = (tt, declared-variables n m)

  pub declared-projections :
      (r : RecId) (R : Record) (i n : ℕ) (t : Tree) → record_in (slice_get E r.0) ≡ Some R → i + n ≤ length R.fields
      → IsDeclared E t → AreDeclared E (projections r i n t)
  declared-projections r R i zero t e l h = tt
  declared-projections r R i (suc n) t e l h =
      (((R, e, omega arith), h), declared-projections r R (i + 1) n t e (omega arith) h)

-- what a well scoped environment declares, is declared in it
module _ (E : List Decl) (env : IsDeclaredEnv E) where
  pub declared-body : (n : ℕ) (u : Tree) → body_in (slice_get E n) ≡ Some u → IsDeclared E u
  declared-body n u h = go (slice_get E n) refl h
    where
      go : (o : Option Decl) → slice_get E n ≡ o → body_in o ≡ Some u → IsDeclared E u
      go None e k = absurd (none-some u k)
      go (Some (an_axiom m t)) e k = absurd (none-some u k)
      go (Some (a_definition m t b)) e k = declared-along E b u (Some-injective b u k) (env n _ e).1.0
      go (Some (a_record m l ps j fs)) e k = absurd (none-some u k)

  pub declared-record : (n : ℕ) (R : Record) → record_in (slice_get E n) ≡ Some R → AreDeclared E (R.params ++ R.fields)
  declared-record n R h = go (slice_get E n) refl h
    where
      go : (o : Option Decl) → slice_get E n ≡ o → record_in o ≡ Some R → AreDeclared E (R.params ++ R.fields)
      go None e k = absurd (none-some R k)
      go (Some (an_axiom m t)) e k = absurd (none-some R k)
      go (Some (a_definition m t b)) e k = absurd (none-some R k)
      go (Some (a_record m l ps j fs)) e k =
          all-along E (ps ++ field_types fs) _ (ap (λ Q. Q.params ++ Q.fields) (Some-injective _ R k)) (env n _ e)

  pub Contracts-declared : {t u : Tree} → Contracts E t u → IsDeclared E t → IsDeclared E u
  Contracts-declared (beta {b = b} {v = v} e) h = declared-along E _ _ (sym e) (declared-subst E b v 0 h.0.1 h.1)
  Contracts-declared (delta {c = c} {u = u} m e) h = declared-body c.decl u e
  Contracts-declared (projection {r = r} {i = i} {t = t} {u = u} qs fs e p q k g) h =
      let args = applied-args E (maker r.0) (qs ++ fs) (declared-along E t _ k h.1) in
      all-at E fs i u g (all-behind E qs fs args)

  pub Step-declared : {t u : Tree} → Step E t u → IsDeclared E t → IsDeclared E u
  Step-declared (one.here s) h = Contracts-declared s h
  Step-declared (in_domain s) h = (Step-declared s h.0, h.1)
  Step-declared (in_codomain s) h = (h.0, Step-declared s h.1)
  Step-declared (in_binder s) h = (Step-declared s h.0, h.1)
  Step-declared (in_body s) h = (h.0, Step-declared s h.1)
  Step-declared (in_function s) h = (Step-declared s h.0, h.1)
  Step-declared (in_argument s) h = (h.0, Step-declared s h.1)
  Step-declared (in_projected s) h = (h.0, Step-declared s h.1)

  pub Steps-declared : {t u : Tree} → Steps E t u → IsDeclared E t → IsDeclared E u
  Steps-declared done h = h
  Steps-declared (more s r) h = Steps-declared r (Step-declared s h)

  first-declared : (r : RecId) (i n : ℕ) (t : Tree) → 0 < n → AreDeclared E (projections r i n t) → IsDeclared E t
  first-declared r i zero t l h = absurd (let k : ⊥ = omega arith in k)
  first-declared r i (suc n) t l h = h.0.1

  pub EtaContracts-declared : {t u : Tree} → EtaContracts E t u → IsDeclared E t → IsDeclared E u
  EtaContracts-declared (eta {b = b} {t = t} e) h = declared-unlift E t 1 0 (declared-along E b _ e h.1).0
  EtaContracts-declared (record_eta {t = t} {u = u} r {R = R} qs e p l k) h =
      let args = applied-args E (maker r.0) (qs ++ projections r 0 (length R.fields) t) (declared-along E u _ k h) in
      first-declared r 0 (length R.fields) t l (all-behind E qs _ args)
