-- Fields of full makers, and values that makers are made of, by their last arguments.
use Rattle.std.proofs.Common.{◌≡◌, ◌≢◌, ◌∙◌, sym, refl, ap, subst, ℕ, zero, suc, ◌+◌, ◌-◌, ◌<◌, ◌≤◌, ◌⊎◌, ⊎_elim, true≢false, List, [], ◌∷◌, ◌++◌, length, length-append, drop, arith, eqb-true, eq-eqb}
use Rattle.std.specs.Prelude.{Option, Some, None, slice_get, Bool, true, false, cond, ◌&&◌, ◌==◌, nat_lt}
use Rattle.std.proofs.lemmas.Bool.Decides.{nat_tests}
use Rattle.hb_tree.specs.Tree.{Tree, sort, rel, pi, lam, app, const, proj, hole, head_of, args_of, apply}
use Rattle.hb_tree.specs.declared.leaves.RecId.{RecId}
use Rattle.hb_term.specs.Meaning.{tree}
use Rattle.hb_term.specs.declared.term.Term.{Term}
use Rattle.hb_term.specs.declared.term.Term.TheVariants.{Sort, Rel, Pi, Lam, App, Const, Proj, Hole}
use Rattle.hb_calculus.specs.Declarations.{Decl, Record, record_in}
use Rattle.hb_calculus.specs.Telescopes.{maker, projections}
use Rattle.hb_calculus.specs.Conversion.{EtaContracts, eta, record_eta}
use Rattle.hb_calculus.specs.Contraction.{is_maker, field_of, eta_of, same_tree}
use Rattle.hb_calculus.proofs.Options.{Seen, nothing, just, seen, both}
use Rattle.hb_calculus.proofs.Spines.{apply-args, head-apply, args-apply}
use Rattle.hb_calculus.proofs.Rules.{maker-is, is-maker}
use Rattle.hb_calculus.proofs.Same.{trees-same, both-true}
use Rattle.hb_calculus.proofs.Etas.{eta-rule, rule-eta}
use Rattle.hb_reduce.specs.Kinds.{kind, is_built}
use Rattle.hb_reduce.specs.Spines.{argument, ends_with, SizesAre}
use Rattle.hb_reduce.proofs.KindLemmas.{kind-built, full-field}
use Rattle.hb_reduce.proofs.SpineLemmas.{argument-at, ends-made, made-ends}

slice_get-drop : (n : ℕ) (xs : List Tree) (i : ℕ) → slice_get (drop n xs) i ≡ slice_get xs (n + i)
slice_get-drop zero xs i = let e : i ≡ 0 + i = omega arith in ap (slice_get xs) e
slice_get-drop (suc n) [] i = refl
slice_get-drop (suc n) (x ∷ xs) i =
    let e : suc n + i ≡ suc (n + i) = omega arith in slice_get-drop n xs i ∙ sym (ap (slice_get (x ∷ xs)) e)

-- projections
pub no-record : (o : Option Record) (r i : ℕ) (h : Tree) (xs : List Tree) → SizesAre o None → field_of o r i h xs ≡ None
no-record None r i h xs s = refl
no-record (Some R) r i h xs s = absurd s

and-second : (b c : Bool) → c ≡ false → (b && c) ≡ false
and-second true c e = e
and-second false c e = refl

and-first : (b c : Bool) → b ≡ false → (b && c) ≡ false
and-first b c e = ap (λ x. x && c) e

pub no-field :
    (o : Option Record) (r i p m : ℕ) (t : Tree) → SizesAre o (Some (p, m)) → (m ≤ i) ⊎ (is_built r (p + m) (kind t) ≡ false)
    → field_of o r i (head_of t) (args_of t) ≡ None
no-field None r i p m t s h = absurd s
no-field (Some R) r i p m t s h =
    full-field (Some R) r i t
    (⊎_elim
    (λ l. and-second (is_built r (length R.params + length R.fields) (kind t)) (nat_lt i (length R.fields))
    (let a = s.1 in grind (arith, nat_tests)))
    (λ e. and-first _ (nat_lt i (length R.fields)) ((λ k. is_built r (sym s.0 k + sym s.1 k) (kind t)) ∙ e))
    h)

pub field-argument :
    (o : Option Record) (r i p m : ℕ) (t : Tree) → SizesAre o (Some (p, m)) → i < m → is_built r (p + m) (kind t) ≡ true
    → field_of o r i (head_of t) (args_of t) ≡ argument t (m - 1 - i)
field-argument None r i p m t s l h = absurd s
field-argument (Some R) r i p m t s l h =
    let n = length R.params in
    let built : (is_maker r (head_of t) && (length (args_of t) == n + length R.fields)) ≡ true =
    sym (kind-built t r (n + length R.fields)) ∙ (λ k. is_built r (sym s.0 k + sym s.1 k) (kind t)) ∙ h in
    let many : length (args_of t) ≡ n + length R.fields = eqb-true _ _ (both (is_maker r (head_of t)) _ built).1 in
    let a = s.0 in
    let b = s.1 in
    ap (λ x. cond x (slice_get (drop n (args_of t)) i) None) built
    ∙ slice_get-drop n (args_of t) i
    ∙ sym (argument-at t (m - 1 - i) (n + i) (omega arith))

-- eta of records
is_app : Tree → Bool
is_app (app f a) = true
is_app t = false

not-lam : (a b f x : Tree) → lam a b ≡ app f x → ⊥
unfolding is_app
not-lam a b f x e = true≢false (sym (ap is_app e))

record_of : Tree → ℕ
record_of (proj r i t) = r.0
record_of t = 0

of : Tree → Tree
of (proj r i t) = t
of t = t

same-record : (r s : RecId) (i j : ℕ) (t u : Tree) → proj r i t ≡ proj s j u → (r.0 ≡ s.0) × (t ≡ u)
unfolding record_of of
same-record r s i j t u e = (ap record_of e, ap of e)

-- what a record's eta form looks like from its end
pub record Shape (E : List Decl) (t last u : Tree) : Type 0 where
  pub rec : RecId
  pub R : Record
  pub n : ℕ
  pub found : record_in (slice_get E rec.0) ≡ Some R
  pub many : length R.fields ≡ suc n
  pub built : is_built rec.0 (length R.params + length R.fields) (kind t) ≡ true
  pub ends : ends_with t rec (length R.fields) u ≡ true
  pub last_is : last ≡ proj rec n u

all-projected : (r : RecId) (i n : ℕ) (t : Tree) → length (projections r i n t) ≡ n
all-projected r i zero t = refl
all-projected r i (suc n) t = ap suc (all-projected r (i + 1) n t)

made-built : (r : ℕ) (xs : List Tree) (n : ℕ) → length xs ≡ n → is_built r n (kind (apply (maker r) xs)) ≡ true
made-built r xs n e =
    kind-built (apply (maker r) xs) r n
    ∙ both-true _ _
    (ap (is_maker r) (head-apply (maker r) xs) ∙ is-maker r)
    (eq-eqb _ _ (ap length (args-apply (maker r) xs) ∙ e))

shape-of : (E : List Decl) (t f last u : Tree) → t ≡ app f last → EtaContracts E t u → Shape E t last u
shape-of E t f last u e (eta {a = a} {b = b} g) = absurd (not-lam a b f last e)
shape-of E t f last u e (record_eta r {R = R} qs d p h k) = go (length R.fields) refl h
  where
    whole : ends_with t r (length R.fields) u ≡ true
    whole = ap (λ x. ends_with x r (length R.fields) u) k ∙ ends-made (maker r.0) qs r (length R.fields) u

    full : is_built r.0 (length R.params + length R.fields) (kind t) ≡ true
    full =
        let l : length (qs ++ projections r 0 (length R.fields) u) ≡ length R.params + length R.fields =
        length-append qs (projections r 0 (length R.fields) u) ∙ (λ i. p i + all-projected r 0 (length R.fields) u i) in
        ap (λ x. is_built r.0 (length R.params + length R.fields) (kind x)) k ∙ made-built r.0 _ _ l

    go : (m : ℕ) → length R.fields ≡ m → 0 < m → Shape E t last u
    go zero q l = absurd (let x : ⊥ = omega arith in x)
    go (suc n) q l =
        let w : ends_with (app f last) r (suc n) u ≡ true =
        ap (λ x. ends_with x r (suc n) u) (sym e) ∙ ap (λ j. ends_with t r j u) (sym q) ∙ whole in
        record {
          rec = r;
          R = R;
          n = n;
          found = d;
          many = q;
          built = full;
          ends = whole;
          last_is = trees-same last (proj r n u) (both (same_tree last (proj r n u)) (ends_with f r n u) w).0;
        }

-- where the shape can't be, there is no contraction
module _ (E : List Decl) (t f last : Tree) (e : t ≡ app f last) where
  pub no-eta : ((u : Tree) → ¬ Shape E t last u) → None ≡ eta_of E t
  no-eta k = go (seen (eta_of E t))
    where
      go : Seen (eta_of E t) → None ≡ eta_of E t
      go (nothing h) = sym h
      go (just u h) = absurd (k u (shape-of E t f last u e (eta-rule E t u h)))

  pub no-eta-last : ((r : RecId) (i : ℕ) (x : Tree) → last ≢ proj r i x) → None ≡ eta_of E t
  no-eta-last k = no-eta (λ u s. k s.rec s.n u s.last_is)

  module _ (rec : RecId) (i : ℕ) (x : Tree) (g : last ≡ proj rec i x) where
    same-rec : (u : Tree) (s : Shape E t last u) → s.rec ≡ rec
    same-rec u s = let p = (same-record s.rec rec s.n i u x (sym s.last_is ∙ g)).0 in λ k. record { 0 = p k }

    same-value : (u : Tree) (s : Shape E t last u) → u ≡ x
    same-value u s = (same-record s.rec rec s.n i u x (sym s.last_is ∙ g)).1

    found-at : (u : Tree) (s : Shape E t last u) → record_in (slice_get E rec.0) ≡ Some s.R
    found-at u s = ap (λ r. record_in (slice_get E r.0)) (sym (same-rec u s)) ∙ s.found

    pub no-eta-record : SizesAre (record_in (slice_get E rec.0)) None → None ≡ eta_of E t
    no-eta-record h = no-eta (λ u s. subst (λ o. SizesAre o None) (found-at u s) h)

    sizes-at : (p m : ℕ) → SizesAre (record_in (slice_get E rec.0)) (Some (p, m)) → (u : Tree) (s : Shape E t last u)
        → (p ≡ length (s.R).params) × (m ≡ length (s.R).fields)
    sizes-at p m h u s = subst (λ o. SizesAre o (Some (p, m))) (found-at u s) h

    pub no-eta-built : (p m : ℕ) → SizesAre (record_in (slice_get E rec.0)) (Some (p, m))
        → (m ≡ 0) ⊎ (is_built rec.0 (p + m) (kind t) ≡ false) → None ≡ eta_of E t
    no-eta-built p m h k = no-eta (λ u s. bad u s (sizes-at p m h u s))
      where
        bad : (u : Tree) (s : Shape E t last u) → (p ≡ length (s.R).params) × (m ≡ length (s.R).fields) → ⊥
        bad u s q =
            ⊎_elim
            (λ z. let a = q.1 in let b = s.many in let c : ⊥ = omega arith in c)
            (λ z. true≢false (sym s.built ∙ (λ j. is_built (same-rec u s j).0 (sym q.0 j + sym q.1 j) (kind t)) ∙ z))
            k

    pub no-eta-ends : (p m : ℕ) → SizesAre (record_in (slice_get E rec.0)) (Some (p, m)) → ends_with t rec m x ≡ false → None ≡ eta_of E t
    no-eta-ends p m h k = no-eta (λ u s. bad u s (sizes-at p m h u s))
      where
        bad : (u : Tree) (s : Shape E t last u) → (p ≡ length (s.R).params) × (m ≡ length (s.R).fields) → ⊥
        bad u s q = true≢false (sym s.ends ∙ (λ j. ends_with t (same-rec u s j) (sym q.1 j) (same-value u s j)) ∙ k)

-- and where it is, the value
pub full-eta :
    (E : List Decl) (t : Tree) (rec : RecId) (p m : ℕ) (x : Tree) → SizesAre (record_in (slice_get E rec.0)) (Some (p, m)) → 0 < m
    → is_built rec.0 (p + m) (kind t) ≡ true → ends_with t rec m x ≡ true → Some x ≡ eta_of E t
full-eta E t rec p m x h l b e = go (record_in (slice_get E rec.0)) refl h
  where
    go : (o : Option Record) → record_in (slice_get E rec.0) ≡ o → SizesAre o (Some (p, m)) → Some x ≡ eta_of E t
    go None d s = absurd s
    go (Some R) d s =
        let built : (is_maker rec.0 (head_of t) && (length (args_of t) == p + m)) ≡ true = sym (kind-built t rec.0 (p + m)) ∙ b in
        let parts = both (is_maker rec.0 (head_of t)) _ built in
        let many : length (args_of t) ≡ p + m = eqb-true _ _ parts.1 in
        let ys = made-ends t rec m x e in
        let count : length (args_of t) ≡ length ys.0 + m =
        ap length ys.1 ∙ length-append ys.0 (projections rec 0 m x) ∙ ap (λ k. length ys.0 + k) (all-projected rec 0 m x) in
        let a = s.0 in
        let c = s.1 in
        sym
        (rule-eta E t x
        (record_eta rec ys.0 d (omega arith) (omega arith)
        (sym (apply-args t)
        ∙ (λ k. apply (maker-is rec.0 (head_of t) parts.0 k) (ys.1 k))
        ∙ ap (λ k. apply (maker rec.0) (ys.0 ++ projections rec 0 k x)) c)))

-- a term that is no projection stands for none
is_proj : Tree → Bool
is_proj (proj r i t) = true
is_proj t = false

apart : (t u : Tree) → is_proj t ≡ false → is_proj u ≡ true → t ≡ u → ⊥
apart t u p q e = true≢false (sym q ∙ sym (ap is_proj e) ∙ p)

pub not-projection :
    (t : Term) (last : Tree) → tree t ≡ last → ((r : RecId) (i : ℕ) (x : Tree) → t ≢ Proj r i x) → (r : RecId) (i : ℕ) (x : Tree) → last ≢ proj r i x
unfolding is_proj
not-projection (Proj s j y) last e k r i x h = k s j y refl
not-projection (Sort s) last e k r i x h = apart (sort s) (proj r i x) refl refl (e ∙ h)
not-projection (Rel v) last e k r i x h = apart (rel v) (proj r i x) refl refl (e ∙ h)
not-projection (Pi a b) last e k r i x h = apart (pi a b) (proj r i x) refl refl (e ∙ h)
not-projection (Lam a b) last e k r i x h = apart (lam a b) (proj r i x) refl refl (e ∙ h)
not-projection (App f a) last e k r i x h = apart (app f a) (proj r i x) refl refl (e ∙ h)
not-projection (Const c) last e k r i x h = apart (const c) (proj r i x) refl refl (e ∙ h)
not-projection (Hole n) last e k r i x h = apart (hole n) (proj r i x) refl refl (e ∙ h)
