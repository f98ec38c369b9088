-- The two parts of a reduction sequence.
use Rattle.std.proofs.Common.{◌≡◌, ◌∙◌, sym, refl, ap, subst, ℕ, zero, suc, ◌<◌, ◌≤◌, ◌⊎◌, inl, inr, ⊎_elim, eq-or-lt_of_le, List, arith}
use Rattle.std.specs.Prelude.{Option, Some, None, option_map, option_and_then}
use Rattle.std.specs.Option.{option_or}
use Rattle.std.proofs.lemmas.Option.{none-some}
use Rattle.std.proofs.lemmas.Bool.{cases_order}
use Rattle.hb_tree.specs.Tree.{Tree, sort, pi}
use Rattle.hb_calculus.specs.Declarations.{Decl}
use Rattle.hb_calculus.specs.Conversion.{Convertible, same, chain, by_step, by_eta, of_pi, of_lam, of_app, of_proj, Below, equal, sorts, codomains, Ordered}
use Rattle.hb_calculus.specs.Contraction.{eta_of, next, next_eta, head_step}
use Rattle.hb_calculus.specs.Sequence.{Stage, stepping, contracting, term_at, move, iterate, sequence, head_sequence, IsNormalForm, IsHeadForm}
use Rattle.hb_calculus.proofs.Options.{Some-injective, IsValue, of-mapped, either-of}
use Rattle.hb_calculus.proofs.Etas.{eta-rule}
use Rattle.hb_calculus.proofs.Leftmost.{Kept, leftmost-kept}
use Rattle.hb_calculus.proofs.Heads.{head-next}
use Rattle.hb_calculus.proofs.Sequences.{next-step, iterate-before, iterate-next}

eta-kept : (E : List Decl) → Kept (eta_of E) (Convertible E)
eta-kept E =
    record {
      by_rule = λ t u h. by_eta (eta-rule E t u h);
      domain = λ a a' b c. of_pi c same;
      codomain = λ a b b' c. of_pi same c;
      binder = λ a a' b c. of_lam c same;
      body = λ a b b' c. of_lam same c;
      function = λ f f' a c. of_app c same;
      argument = λ f a a' c. of_app same c;
      projected = λ r i t t' c. of_proj c;
    }

pub next_eta-convertible : (E : List Decl) (t u : Tree) → next_eta E t ≡ Some u → Convertible E t u
next_eta-convertible E = leftmost-kept (eta_of E) (Convertible E) (eta-kept E)

pub conv-equal : (E : List Decl) (t u : Tree) → t ≡ u → Convertible E t u
conv-equal E t u e = subst (λ x. Convertible E t x) e same

-- a move is a conversion
move-convertible : (E : List Decl) (s z : Stage) → move E s ≡ Some z → Convertible E (term_at s) (term_at z)
move-convertible E (stepping t) z h =
    either-of
    (option_map stepping (next E t)) (option_map contracting (next_eta E t)) z
    (of-mapped stepping (next E t) z (λ x e p. subst (λ y. Convertible E t (term_at y)) (sym p) (by_step (next-step E t x e))))
    (of-mapped contracting (next_eta E t) z (λ x e p. subst (λ y. Convertible E t (term_at y)) (sym p) (next_eta-convertible E t x e)))
    h
move-convertible E (contracting t) z h =
    of-mapped contracting (next_eta E t) z (λ x e p. subst (λ y. Convertible E t (term_at y)) (sym p) (next_eta-convertible E t x e)) h

moves-convertible : (E : List Decl) (n : ℕ) (s z : Stage) → iterate (move E) n s ≡ Some z → Convertible E (term_at s) (term_at z)
moves-convertible E zero s z h = conv-equal E _ _ (ap term_at (Some-injective s z h))
moves-convertible E (suc n) s z h =
    let p = iterate-before (move E) n s z h in
    chain (moves-convertible E n s p.0 p.1) (move-convertible E p.0 z p.2)

pub sequence-convertible : (E : List Decl) (n : ℕ) (t u : Tree) → sequence E t n ≡ Some u → Convertible E t u
sequence-convertible E n t u h =
    of-mapped term_at (iterate (move E) n (stepping t)) u
    (λ z e p. subst (λ x. Convertible E t x) (sym p) (moves-convertible E n (stepping t) z e))
    h

pub normal_form-convertible : (E : List Decl) (t u : Tree) → IsNormalForm E t u → Convertible E t u
normal_form-convertible E t u h = sequence-convertible E h.count t u h.at

-- the order of normal forms is cumulativity
pub ordered-below : (E : List Decl) (t u : Tree) → Ordered t u → Below E t u
ordered-below E (sort s) (sort s') h = sorts h
ordered-below E (pi a b) (pi a' b') h = codomains (conv-equal E a a' h.0) (ordered-below E b b' h.1)
ordered-below E t u h = equal (conv-equal E t u h)

-- steps at the head stand in the first part
move-head : (E : List Decl) (t u : Tree) → head_step E t ≡ Some u → move E (stepping t) ≡ Some (stepping u)
move-head E t u h = ap (λ o. option_or (option_map stepping o) (option_map contracting (next_eta E t))) (head-next E t u h)

pub head_sequence-stage : (E : List Decl) (n : ℕ) (t u : Tree) → head_sequence E t n ≡ Some u → iterate (move E) n (stepping t) ≡ Some (stepping u)
head_sequence-stage E zero t u h = ap Some (ap stepping (Some-injective t u h))
head_sequence-stage E (suc n) t u h =
    let p = iterate-before (head_step E) n t u h in
    iterate-next (move E) n (stepping t) (stepping p.0) (stepping u) (head_sequence-stage E n t p.0 p.1) (move-head E p.0 u p.2)

pub head_sequence-sequence : (E : List Decl) (n : ℕ) (t u : Tree) → head_sequence E t n ≡ Some u → sequence E t n ≡ Some u
head_sequence-sequence E n t u h = ap (option_map term_at) (head_sequence-stage E n t u h)

-- each term of an iteration but the last has a next one
pub iterate-goes_on :
    {A : Type 0} (rule : A → Option A) (n m : ℕ) (x z : A) → m < n → iterate rule n x ≡ Some z
    → (y : A) × (iterate rule m x ≡ Some y) × IsValue (rule y)
iterate-goes_on rule zero m x z h e = absurd (let k : ⊥ = omega arith in k)
iterate-goes_on rule (suc n) m x z h e =
    let p = iterate-before rule n x z e in
    ⊎_elim
    (λ f. (p.0, ap (λ k. iterate rule k x) f ∙ p.1, (z, p.2)))
    (λ l. iterate-goes_on rule n m x p.0 l p.1)
    (eq-or-lt_of_le (let k : m ≤ n = omega arith in k))

-- once an iteration has ended, it stays so
pub iterate-ended : {A : Type 0} (rule : A → Option A) (n : ℕ) (x : A) → iterate rule n x ≡ None → iterate rule (suc n) x ≡ None
iterate-ended rule n x e = ap (option_and_then rule) e

-- two iterations that end, end with the same
pub iterate-last :
    {A : Type 0} (rule : A → Option A) (n m : ℕ) (x y z : A) → iterate rule n x ≡ Some y → rule y ≡ None
    → iterate rule m x ≡ Some z → rule z ≡ None → (n ≡ m) × (y ≡ z)
iterate-last rule n m x y z e p f q = go (order n m)
  where
    order : (i j : ℕ) → (i ≡ j) ⊎ ((i < j) ⊎ (j < i))
    order = cases_order

    early : (i j : ℕ) (v w : _) → i < j → iterate rule i x ≡ Some v → rule v ≡ None → iterate rule j x ≡ Some w → ⊥
    early i j v w l g h k =
        let t = iterate-goes_on rule j i x w l k in
        let same : v ≡ t.0 = Some-injective v t.0 (sym g ∙ t.1) in
        none-some t.2.0 (sym h ∙ ap rule same ∙ t.2.1)

    go : (n ≡ m) ⊎ ((n < m) ⊎ (m < n)) → (n ≡ m) × (y ≡ z)
    go (inl g) = (g, Some-injective y z (sym e ∙ ap (λ k. iterate rule k x) g ∙ f))
    go (inr (inl l)) = absurd (early n m y z l e p f)
    go (inr (inr l)) = absurd (early m n z y l f q e)

-- the value of a mapped option
pub mapped-value : {A B : Type 0} (f : A → B) (q : Option A) (u : B) → option_map f q ≡ Some u → (x : A) × (q ≡ Some x) × (u ≡ f x)
mapped-value f None u h = absurd (none-some u h)
mapped-value f (Some x) u h = (x, refl, sym (Some-injective (f x) u h))

mapped-none : {A B : Type 0} (f : A → B) (q : Option A) → option_map f q ≡ None → q ≡ None
mapped-none f None h = refl
mapped-none f (Some x) h = absurd (none-some (f x) (sym h))

-- the last term of a sequence is the only last one
pub last-one : (E : List Decl) (t u v : Tree) → IsNormalForm E t u → IsNormalForm E t v → u ≡ v
last-one E t u v h g =
    let x = mapped-value term_at _ u h.at in
    let y = mapped-value term_at _ v g.at in
    let p = sym (ap (option_and_then (move E)) x.1) ∙ mapped-none term_at _ h.no_more in
    let q = sym (ap (option_and_then (move E)) y.1) ∙ mapped-none term_at _ g.no_more in
    let e = iterate-last (move E) h.count g.count (stepping t) x.0 y.0 x.1 p y.1 q in
    x.2 ∙ ap term_at e.1 ∙ sym y.2

pub head_form-ends : (E : List Decl) (t u : Tree) → (h : IsHeadForm E t u) → head_step E u ≡ None
head_form-ends E t u h = sym (ap (option_and_then (head_step E)) h.at) ∙ h.no_more

pub last-head : (E : List Decl) (t u v : Tree) → IsHeadForm E t u → IsHeadForm E t v → u ≡ v
last-head E t u v h g =
    (iterate-last (head_step E) h.count g.count t u v h.at (head_form-ends E t u h) g.at (head_form-ends E t v g)).1

-- the terms of the sequence before the weak head form have a step at the head
pub head_sequence-goes_on :
    (E : List Decl) (n m : ℕ) (t u w : Tree) → head_sequence E t n ≡ Some u → m < n → sequence E t m ≡ Some w → IsValue (head_step E w)
head_sequence-goes_on E n m t u w h l e =
    let y = iterate-goes_on (head_step E) n m t u l h in
    let same : y.0 ≡ w = Some-injective y.0 w (sym (head_sequence-sequence E m t y.0 y.1) ∙ e) in
    subst (λ x. IsValue (head_step E x)) same y.2

-- where they all have one, the sequence takes steps at the head alone
pub sequence-head_sequence :
    (E : List Decl) (n : ℕ) (t u : Tree) → ((m : ℕ) (w : Tree) → m < n → sequence E t m ≡ Some w → IsValue (head_step E w))
    → sequence E t n ≡ Some u → head_sequence E t n ≡ Some u
sequence-head_sequence E zero t u k h = h
sequence-head_sequence E (suc n) t u k h =
    let z = mapped-value term_at (iterate (move E) (suc n) (stepping t)) u h in
    let y = iterate-before (move E) n (stepping t) z.0 z.1 in
    let e : sequence E t n ≡ Some (term_at y.0) = ap (option_map term_at) y.1 in
    let before = sequence-head_sequence E n t (term_at y.0) (λ m w l. k m w (omega arith)) e in
    let stage : y.0 ≡ stepping (term_at y.0) =
    Some-injective y.0 (stepping (term_at y.0)) (sym y.1 ∙ head_sequence-stage E n t (term_at y.0) before) in
    let x = k n (term_at y.0) (omega arith) e in
    let moved : z.0 ≡ stepping x.0 =
    Some-injective z.0 (stepping x.0) (sym y.2 ∙ ap (move E) stage ∙ move-head E (term_at y.0) x.0 x.1) in
    ap (option_and_then (head_step E)) before ∙ x.1 ∙ ap Some (sym (z.2 ∙ ap term_at moved))
