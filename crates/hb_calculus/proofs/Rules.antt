-- The function that contracts gives what the three rules give.
use Rattle.std.proofs.Common.{◌≡◌, ◌∙◌, sym, refl, ap, ℕ, ◌+◌, List, ◌++◌, length, take, drop, arith, length-append, length-take, length-drop, take-append-drop, eqb-true, eq-eqb, true≢false}
use Rattle.std.specs.Prelude.{Option, Some, None, slice_get, cond, true, ◌&&◌, ◌==◌}
use Rattle.std.proofs.Math.Seq.{drop-append_seam}
use Rattle.std.proofs.lemmas.Option.{none-some}
use Rattle.hb_tree.specs.Tree.{Tree, sort, rel, pi, lam, app, const, proj, hole, head_of, args_of, apply}
use Rattle.hb_tree.specs.declared.leaves.RecId.{RecId}
use Rattle.hb_calculus.specs.Declarations.{Decl, Record, body_in, record_in}
use Rattle.hb_calculus.specs.Telescopes.{maker}
use Rattle.hb_calculus.specs.Step.{Contracts, beta, delta, projection}
use Rattle.hb_calculus.specs.Contraction.{contract, beta_of, is_maker, field_of}
use Rattle.hb_calculus.proofs.Options.{Some-injective, cond-none, cond-value, both}
use Rattle.hb_calculus.proofs.Spines.{apply-args, head-apply, args-apply}

beta-rule : (E : List Decl) (f v u : Tree) → beta_of f v ≡ Some u → Contracts E (app f v) u
beta-rule E (sort s) v u h = absurd (none-some u h)
beta-rule E (rel n) v u h = absurd (none-some u h)
beta-rule E (pi a b) v u h = absurd (none-some u h)
beta-rule E (lam a b) v u h = beta (sym (Some-injective _ _ h))
beta-rule E (app f a) v u h = absurd (none-some u h)
beta-rule E (const c) v u h = absurd (none-some u h)
beta-rule E (proj r i t) v u h = absurd (none-some u h)
beta-rule E (hole n) v u h = absurd (none-some u h)

pub maker-is : (r : ℕ) (t : Tree) → is_maker r t ≡ true → t ≡ maker r
maker-is r (sort s) h = absurd (true≢false (sym h))
maker-is r (rel n) h = absurd (true≢false (sym h))
maker-is r (pi a b) h = absurd (true≢false (sym h))
maker-is r (lam a b) h = absurd (true≢false (sym h))
maker-is r (app f a) h = absurd (true≢false (sym h))
maker-is r (const c) h =
    let p = both c.maker (c.decl == r) h in
    let d : c.decl ≡ r = eqb-true c.decl r p.1 in
    λ i. const (record { decl = d i; maker = p.0 i })
maker-is r (proj s i t) h = absurd (true≢false (sym h))
maker-is r (hole n) h = absurd (true≢false (sym h))

pub is-maker : (r : ℕ) → is_maker r (maker r) ≡ true
is-maker r = eq-eqb r r refl

projection-rule :
    (E : List Decl) (r : RecId) (i : ℕ) (t u : Tree) (o : Option Record) → record_in (slice_get E r.0) ≡ o
    → field_of o r.0 i (head_of t) (args_of t) ≡ Some u → Contracts E (proj r i t) u
projection-rule E r i t u None e h = absurd (none-some u h)
projection-rule E r i t u (Some R) e h =
    let n = length R.params in
    let test = cond-value _ _ u h in
    let parts = both (is_maker r.0 (head_of t)) _ test.0 in
    let many : length (args_of t) ≡ n + length R.fields = eqb-true _ _ parts.1 in
    projection
    (take n (args_of t))
    (drop n (args_of t))
    e
    (rw length-take (omega arith))
    (rw length-drop (omega arith))
    (sym (apply-args t) ∙ (λ j. apply (maker-is r.0 (head_of t) parts.0 j) (sym (take-append-drop n (args_of t)) j)))
    test.1

pub contract-rule : (E : List Decl) (t u : Tree) → contract E t ≡ Some u → Contracts E t u
contract-rule E (sort s) u h = absurd (none-some u h)
contract-rule E (rel n) u h = absurd (none-some u h)
contract-rule E (pi a b) u h = absurd (none-some u h)
contract-rule E (lam a b) u h = absurd (none-some u h)
contract-rule E (app f a) u h = beta-rule E f a u h
contract-rule E (const c) u h = let p = cond-none c.maker _ u h in delta p.0 p.1
contract-rule E (proj r i t) u h = projection-rule E r i t u (record_in (slice_get E r.0)) refl h
contract-rule E (hole n) u h = absurd (none-some u h)

field-full :
    (R : Record) (r i : ℕ) (qs fs : List Tree) → length qs ≡ length R.params → length fs ≡ length R.fields
    → field_of (Some R) r i (maker r) (qs ++ fs) ≡ slice_get fs i
field-full R r i qs fs p q =
    let many : length (qs ++ fs) ≡ length R.params + length R.fields = rw length-append (omega arith) in
    ap
    (λ b. cond (b && (length (qs ++ fs) == length R.params + length R.fields)) (slice_get (drop (length R.params) (qs ++ fs)) i) None)
    (is-maker r)
    ∙ ap (λ b. cond b (slice_get (drop (length R.params) (qs ++ fs)) i) None) (eq-eqb _ _ many)
    ∙ ap (λ n. slice_get (drop n (qs ++ fs)) i) (sym p)
    ∙ ap (λ xs. slice_get xs i) (drop-append_seam qs fs)

-- a full maker has its fields behind its parameters
pub field-made :
    (R : Record) (r i : ℕ) (qs fs : List Tree) → length qs ≡ length R.params → length fs ≡ length R.fields
    → field_of (Some R) r i (head_of (apply (maker r) (qs ++ fs))) (args_of (apply (maker r) (qs ++ fs))) ≡ slice_get fs i
field-made R r i qs fs p q =
    ap (λ x. field_of (Some R) r i x (args_of (apply (maker r) (qs ++ fs)))) (head-apply (maker r) (qs ++ fs))
    ∙ ap (λ x. field_of (Some R) r i (maker r) x) (args-apply (maker r) (qs ++ fs))
    ∙ field-full R r i qs fs p q

pub rule-contract : (E : List Decl) (t u : Tree) → Contracts E t u → contract E t ≡ Some u
rule-contract E t u (beta e) = λ j. Some (sym e j)
rule-contract E t u (delta {c = c} m e) = ap (λ x. cond x None (body_in (slice_get E c.decl))) m ∙ e
rule-contract E t u (projection {r = r} {i = i} {t = w} {R = R} qs fs e p q h k) =
    ap (λ o. field_of o r.0 i (head_of w) (args_of w)) e
    ∙ ap (λ x. field_of (Some R) r.0 i (head_of x) (args_of x)) h
    ∙ field-made R r.0 i qs fs p q
    ∙ k
