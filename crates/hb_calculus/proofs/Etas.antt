-- The function that contracts by eta gives what the two eta rules give.
use Rattle.std.proofs.Common.{◌≡◌, ◌∙◌, sym, refl, ap, ℕ, zero, suc, ◌+◌, ◌-◌, ◌<◌, List, ◌∷◌, ◌++◌, length, take, drop, arith, length-append, length-take, length-drop, take-append-drop, eqb-true, eq-eqb, true≢false}
use Rattle.std.specs.Prelude.{Option, Some, None, slice_get, option_and_then, cond, true, false, ◌&&◌, ◌==◌}
use Rattle.std.proofs.Math.Seq.{drop-append_seam}
use Rattle.std.proofs.lemmas.Option.{none-some}
use Rattle.std.proofs.lemmas.Bool.Decides.{nat_tests}
use Rattle.hb_tree.specs.Tree.{Tree, sort, rel, pi, lam, app, const, proj, hole, lift, subst_at, occurs, head_of, args_of, apply}
use Rattle.hb_tree.specs.declared.leaves.Sort.TheVariants.{Prop}
use Rattle.hb_tree.specs.declared.leaves.RecId.{RecId}
use Rattle.hb_tree.proofs.Variables.{Place, below, here, above, place, lift_below, lift_above, subst_below, subst_above}
use Rattle.hb_tree.proofs.Neither.{neither, first_not, second_not}
use Rattle.hb_tree.proofs.LiftLaws.{lift_zero}
use Rattle.hb_tree.proofs.SubstLaws.{subst_lift}
use Rattle.hb_calculus.specs.Declarations.{Decl, Record, record_in}
use Rattle.hb_calculus.specs.Telescopes.{maker, projections}
use Rattle.hb_calculus.specs.Conversion.{EtaContracts, eta, record_eta}
use Rattle.hb_calculus.specs.Contraction.{same_trees, eta_of_body, projected_of, eta_of_fields, eta_of_made, eta_of}
use Rattle.hb_calculus.proofs.Options.{Seen, nothing, just, seen, Some-injective, cond-none, cond-value, both}
use Rattle.hb_calculus.proofs.Spines.{apply-args, head-apply, args-apply}
use Rattle.hb_calculus.proofs.Same.{both-true, all-same, all-themselves}

unput_rel : (v : ℕ) (s : Tree) (k : ℕ) → (v == k) ≡ false → Place v k → lift (subst_at (rel v) s k) 1 k ≡ rel v
unput_rel v s k h (below p) = ap (λ t. lift t 1 k) (subst_below v s k p) ∙ lift_below v 1 k p
unput_rel v s k h (here p) = absurd (true≢false (sym (eq-eqb v k p) ∙ h))
unput_rel v s k h (above p) =
    let e : (v - 1) + 1 ≡ v = omega arith in
    ap (λ t. lift t 1 k) (subst_above v s k p) ∙ lift_above (v - 1) 1 k (omega arith) ∙ ap rel e

-- a term without variable k is a lifted one
pub unput : (t s : Tree) (k : ℕ) → occurs t k ≡ false → lift (subst_at t s k) 1 k ≡ t
unput (sort o) s k h = refl
unput (rel v) s k h = unput_rel v s k h (place v k)
unput (pi a b) s k h = λ i. pi (unput a s k (first_not (occurs a k) _ h) i) (unput b s (k + 1) (second_not (occurs a k) _ h) i)
unput (lam a b) s k h = λ i. lam (unput a s k (first_not (occurs a k) _ h) i) (unput b s (k + 1) (second_not (occurs a k) _ h) i)
unput (app f a) s k h = λ i. app (unput f s k (first_not (occurs f k) _ h) i) (unput a s k (second_not (occurs f k) _ h) i)
unput (const c) s k h = refl
unput (proj r i t) s k h = λ j. proj r i (unput t s k h j)
unput (hole n) s k h = refl

-- and a lifted one is without it
pub gone : (t : Tree) (k : ℕ) → occurs (lift t 1 k) k ≡ false
gone (sort o) k = refl
gone (rel v) k = grind (arith, nat_tests)
gone (pi a b) k = neither (gone a k) (gone b (k + 1))
gone (lam a b) k = neither (gone a k) (gone b (k + 1))
gone (app f a) k = neither (gone f k) (gone a k)
gone (const c) k = refl
gone (proj r i t) k = gone t k
gone (hole n) k = refl

body-rule : (b u : Tree) → eta_of_body b ≡ Some u → b ≡ app (lift u 1 0) (rel 0)
body-rule (app t (rel zero)) u h =
    let p = cond-none (occurs t 0) _ u h in
    let e : subst_at t (sort Prop) 0 ≡ u = Some-injective _ u p.1 in
    λ i. app ((sym (unput t (sort Prop) 0 p.0) ∙ ap (λ x. lift x 1 0) e) i) (rel 0)
body-rule b u h = absurd (none-some u h)

first-projected : (ts : List Tree) (t : Tree) → projected_of ts ≡ Some t → 0 < length ts
first-projected (proj r i x ∷ rest) t h = omega arith
first-projected ts t h = absurd (none-some t h)

all-projected : (r : RecId) (i n : ℕ) (t : Tree) → length (projections r i n t) ≡ n
all-projected r i zero t = refl
all-projected r i (suc n) t = ap suc (all-projected r (i + 1) n t)

fields-rule :
    (E : List Decl) (t u : Tree) (r : RecId) (R : Record) → record_in (slice_get E r.0) ≡ Some R → head_of t ≡ maker r.0
    → eta_of_fields (Some R) r.0 (args_of t) ≡ Some u → EtaContracts E t u
fields-rule E t u r R e m h = go (seen (projected_of fs)) h
  where
    n : ℕ
    n = length R.params

    fs : List Tree
    fs = drop (length R.params) (args_of t)

    made : (w : Tree) → projected_of (drop (length R.params) (args_of t)) ≡ Some w → w ≡ u
        → (length (args_of t) == length R.params + length R.fields) ≡ true
        → same_trees (drop (length R.params) (args_of t)) (projections r 0 (length R.fields) w) ≡ true → EtaContracts E t u
    made w p q l k =
        let many : length (args_of t) ≡ length R.params + length R.fields = eqb-true _ _ l in
        let some : 0 < length (drop (length R.params) (args_of t)) = first-projected _ w p in
        let count : length (drop (length R.params) (args_of t)) ≡ length R.fields = rw length-drop (omega arith) in
        let same : drop (length R.params) (args_of t) ≡ projections r 0 (length R.fields) u =
        all-same _ _ k ∙ ap (λ x. projections r 0 (length R.fields) x) q in
        record_eta
        r
        (take (length R.params) (args_of t))
        e
        (rw length-take (omega arith))
        (rw count at some)
        (sym (apply-args t)
        ∙ ap (λ x. apply x (args_of t)) m
        ∙ ap (λ xs. apply (maker r.0) xs) (sym (take-append-drop (length R.params) (args_of t)))
        ∙ ap (λ xs. apply (maker r.0) (take (length R.params) (args_of t) ++ xs)) same)

    go : Seen (projected_of (drop (length R.params) (args_of t))) → eta_of_fields (Some R) r.0 (args_of t) ≡ Some u → EtaContracts E t u
    go (nothing p) k = absurd (none-some u (sym (ap (option_and_then _) p) ∙ k))
    go (just w p) k =
        let q = cond-value _ _ u (sym (ap (option_and_then _) p) ∙ k) in
        let l = both (length (args_of t) == length R.params + length R.fields) _ q.0 in
        made w p (Some-injective w u q.1) l.0 l.1

made-rule : (E : List Decl) (t u : Tree) (head : Tree) → head_of t ≡ head → eta_of_made E head (args_of t) ≡ Some u → EtaContracts E t u
made-rule E t u (const c) e h =
    let p = cond-value c.maker _ u h in
    go (record_in (slice_get E c.decl)) refl (λ i. const (record { decl = c.decl; maker = p.0 i })) p.1
  where
    go : (o : Option Record) → record_in (slice_get E c.decl) ≡ o → const c ≡ maker c.decl
        → eta_of_fields o c.decl (args_of t) ≡ Some u → EtaContracts E t u
    go None f m k = absurd (none-some u k)
    go (Some R) f m k = fields-rule E t u (record { 0 = c.decl }) R f (e ∙ m) k
made-rule E t u head e h = absurd (none-some u h)

pub eta-rule : (E : List Decl) (t u : Tree) → eta_of E t ≡ Some u → EtaContracts E t u
eta-rule E (lam a b) u h = eta (body-rule b u h)
eta-rule E (app f a) u h = made-rule E (app f a) u (head_of (app f a)) refl h
eta-rule E t u h = absurd (none-some u h)

spine-eta : (E : List Decl) (t : Tree) → 0 < length (args_of t) → eta_of E t ≡ eta_of_made E (head_of t) (args_of t)
spine-eta E (app f a) h = refl
spine-eta E t h = absurd (let k : ⊥ = omega arith in k)

projected-first : (r : RecId) (i n : ℕ) (t : Tree) → 0 < n → projected_of (projections r i n t) ≡ Some t
projected-first r i zero t h = absurd (let k : ⊥ = omega arith in k)
projected-first r i (suc n) t h = refl

full-eta :
    (r : RecId) (R : Record) (qs : List Tree) (t : Tree) → length qs ≡ length R.params → 0 < length R.fields
    → eta_of_fields (Some R) r.0 (qs ++ projections r 0 (length R.fields) t) ≡ Some t
full-eta r R qs t p h =
    let m = length R.fields in
    let ps = projections r 0 m t in
    let many : length (qs ++ ps) ≡ length R.params + m = rw (length-append, all-projected r 0 m t) (omega arith) in
    let rest : drop (length R.params) (qs ++ ps) ≡ ps = ap (λ n. drop n (qs ++ ps)) (sym p) ∙ drop-append_seam qs ps in
    ap
    (λ fs. option_and_then (λ x. cond ((length (qs ++ ps) == length R.params + m) && same_trees fs (projections r 0 m x)) (Some x) None) (projected_of fs))
    rest
    ∙ ap
    (option_and_then (λ x. cond ((length (qs ++ ps) == length R.params + m) && same_trees ps (projections r 0 m x)) (Some x) None))
    (projected-first r 0 m t h)
    ∙ ap (λ b. cond b (Some t) None) (both-true _ _ (eq-eqb _ _ many) (all-themselves ps))

made-eta :
    (E : List Decl) (r : RecId) (R : Record) (qs : List Tree) (t : Tree) → record_in (slice_get E r.0) ≡ Some R
    → length qs ≡ length R.params → 0 < length R.fields
    → eta_of E (apply (maker r.0) (qs ++ projections r 0 (length R.fields) t)) ≡ Some t
made-eta E r R qs t e p h =
    let xs = qs ++ projections r 0 (length R.fields) t in
    let count : length xs ≡ length qs + length R.fields =
    length-append qs (projections r 0 (length R.fields) t) ∙ ap (λ n. length qs + n) (all-projected r 0 (length R.fields) t) in
    let args : length (args_of (apply (maker r.0) xs)) ≡ length xs = ap length (args-apply (maker r.0) xs) in
    let many : 0 < length (args_of (apply (maker r.0) xs)) = omega arith in
    spine-eta E (apply (maker r.0) xs) many
    ∙ ap (λ x. eta_of_made E x (args_of (apply (maker r.0) xs))) (head-apply (maker r.0) xs)
    ∙ ap (λ x. eta_of_made E (maker r.0) x) (args-apply (maker r.0) xs)
    ∙ ap (λ o. eta_of_fields o r.0 xs) e
    ∙ full-eta r R qs t p h

pub rule-eta : (E : List Decl) (t u : Tree) → EtaContracts E t u → eta_of E t ≡ Some u
rule-eta E t u (eta {b = b} e) =
    ap eta_of_body e
    ∙ ap (λ x. cond x None (Some (subst_at (lift u 1 0) (sort Prop) 0))) (gone u 0)
    ∙ ap Some (subst_lift u (sort Prop) 0 0 0 (omega arith) (omega arith) ∙ lift_zero u 0)
rule-eta E t u (record_eta r {R = R} qs e p h k) = ap (λ x. eta_of E x) k ∙ made-eta E r R qs u e p h
