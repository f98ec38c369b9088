-- Kinds tell where formers have steps.
use Rattle.std.proofs.Common.{◌≡◌, ◌∙◌, sym, refl, ap, subst, ℕ, zero, suc, ◌+◌, ◌≤◌, true≢false, List, [], ◌∷◌, ◌++◌, length, length-append, drop, arith}
use Rattle.std.specs.Prelude.{Option, Some, None, slice_get, Bool, true, false, cond, ◌&&◌, ◌==◌, nat_lt}
use Rattle.std.proofs.lemmas.Option.{none-some, slice_get_past}
use Rattle.std.proofs.lemmas.Bool.Decides.{nat_tests}
use Rattle.std.proofs.Common.{length-drop, eqb-true}
use Rattle.hb_tree.specs.Tree.{Tree, sort, rel, pi, lam, app, const, proj, hole, head_of, args_of}
use Rattle.hb_calculus.specs.Declarations.{Decl, Record}
use Rattle.hb_calculus.specs.Contraction.{contract, beta_of, is_maker, field_of}
use Rattle.hb_calculus.proofs.Options.{cond-none, both}
use Rattle.hb_reduce.specs.declared.former.Former.{Former}
use Rattle.hb_reduce.specs.declared.former.Former.TheVariants.{Product, Function, Application}
use Rattle.hb_reduce.specs.Frames.{make, Frame, left, right, under, plug}
use Rattle.hb_reduce.specs.Rules.{IsClear, At}
use Rattle.hb_reduce.specs.Kinds.{Kind, neutral, function, built, grown, kind, kind_made, fires, is_built, is_full, IsClearFor, may_fire}

none≢some : {A : Type 0} (x : A) → Some x ≡ None → ⊥
none≢some x e = none-some x (sym e)

-- beta
grown-fires : (k : Kind) → fires Application (grown k) ≡ false
grown-fires neutral = refl
grown-fires function = refl
grown-fires (built r n) = refl

const-fires : (b : Bool) (r : ℕ) → fires Application (cond b (built r 0) neutral) ≡ false
const-fires true r = refl
const-fires false r = refl

pub beta-fires : (f a : Tree) → beta_of f a ≡ None → fires Application (kind f) ≡ false
beta-fires (sort s) a e = refl
beta-fires (rel v) a e = refl
beta-fires (pi p q) a e = refl
beta-fires (lam p q) a e = absurd (none≢some _ e)
beta-fires (app f x) a e = grown-fires (kind f)
beta-fires (const c) a e = const-fires c.maker c.decl
beta-fires (proj r i t) a e = refl
beta-fires (hole h) a e = refl

pub fires-beta : (f a : Tree) → fires Application (kind f) ≡ false → beta_of f a ≡ None
fires-beta (lam p q) a e = absurd (true≢false e)
fires-beta (sort s) a e = refl
fires-beta (rel v) a e = refl
fires-beta (pi p q) a e = refl
fires-beta (app f x) a e = refl
fires-beta (const c) a e = refl
fires-beta (proj r i t) a e = refl
fires-beta (hole h) a e = refl

-- makers
and-false : (b : Bool) → (b && false) ≡ false
and-false true = refl
and-false false = refl

grown-zero : (r : ℕ) (k : Kind) → is_built r 0 (grown k) ≡ false
grown-zero r neutral = refl
grown-zero r function = refl
grown-zero r (built s n) = let e : (n + 1 == 0) ≡ false = grind (arith, nat_tests) in ap (λ b. (s == r) && b) e ∙ and-false (s == r)

grown-suc : (r n : ℕ) (k : Kind) → is_built r (suc n) (grown k) ≡ is_built r n k
grown-suc r n neutral = refl
grown-suc r n function = refl
grown-suc r n (built s m) = let e : (m + 1 == suc n) ≡ (m == n) = grind (arith, nat_tests) in ap (λ b. (s == r) && b) e

const-built : (b : Bool) (d r n : ℕ) → is_built r n (cond b (built d 0) neutral) ≡ ((b && (d == r)) && (0 == n))
const-built true d r n = refl
const-built false d r n = refl

longer-zero : (xs : List Tree) (a : Tree) → (length (xs ++ a ∷ []) == 0) ≡ false
longer-zero xs a = let e : length (xs ++ a ∷ []) ≡ length xs + 1 = length-append xs (a ∷ []) in grind (arith, nat_tests)

longer-suc : (xs : List Tree) (a : Tree) (n : ℕ) → (length (xs ++ a ∷ []) == suc n) ≡ (length xs == n)
longer-suc xs a n = let e : length (xs ++ a ∷ []) ≡ length xs + 1 = length-append xs (a ∷ []) in grind (arith, nat_tests)

pub kind-built : (t : Tree) (r n : ℕ) → is_built r n (kind t) ≡ (is_maker r (head_of t) && (length (args_of t) == n))
kind-built (sort s) r n = refl
kind-built (rel v) r n = refl
kind-built (pi a b) r n = refl
kind-built (lam a b) r n = refl
kind-built (app f a) r zero =
    grown-zero r (kind f) ∙ sym (ap (λ b. is_maker r (head_of f) && b) (longer-zero (args_of f) a) ∙ and-false (is_maker r (head_of f)))
kind-built (app f a) r (suc n) =
    grown-suc r n (kind f) ∙ kind-built f r n ∙ sym (ap (λ b. is_maker r (head_of f) && b) (longer-suc (args_of f) a n))
kind-built (const c) r n = const-built c.maker c.decl r n
kind-built (proj s i t) r n = refl
kind-built (hole h) r n = refl

-- a field that is there, and one that isn't
pick-none :
    (b : Bool) (xs : List Tree) (i m : ℕ) → (b ≡ true → length xs ≡ m) → (b && nat_lt i m) ≡ false → cond b (slice_get xs i) None ≡ None
pick-none false xs i m l e = refl
pick-none true xs i m l e =
    let h : length xs ≡ m = l refl in
    let k : length xs ≤ i = grind (arith, nat_tests) in
    slice_get_past xs i k

none-past : (xs : List Tree) (i : ℕ) → slice_get xs i ≡ None → length xs ≤ i
none-past [] i e = omega arith
none-past (x ∷ xs) zero e = absurd (none≢some x e)
none-past (x ∷ xs) (suc i) e = let h = none-past xs i e in omega arith

none-pick :
    (b : Bool) (xs : List Tree) (i m : ℕ) → (b ≡ true → length xs ≡ m) → cond b (slice_get xs i) None ≡ None → (b && nat_lt i m) ≡ false
none-pick false xs i m l e = refl
none-pick true xs i m l e =
    let h : length xs ≡ m = l refl in
    let k : length xs ≤ i = none-past xs i e in
    grind (arith, nat_tests)

fields-many :
    (R : Record) (r : ℕ) (t : Tree) → (is_maker r (head_of t) && (length (args_of t) == length R.params + length R.fields)) ≡ true
    → length (drop (length R.params) (args_of t)) ≡ length R.fields
fields-many R r t e =
    let p = both (is_maker r (head_of t)) _ e in
    let n : length (args_of t) ≡ length R.params + length R.fields = eqb-true _ _ p.1 in
    rw length-drop (omega arith)

full-test : (R : Record) (r i : ℕ) (t : Tree)
    → is_full (Some R) r i (kind t)
    ≡ ((is_maker r (head_of t) && (length (args_of t) == length R.params + length R.fields)) && nat_lt i (length R.fields))
full-test R r i t = ap (λ b. b && nat_lt i (length R.fields)) (kind-built t r (length R.params + length R.fields))

pub full-field : (o : Option Record) (r i : ℕ) (t : Tree) → is_full o r i (kind t) ≡ false → field_of o r i (head_of t) (args_of t) ≡ None
full-field None r i t e = refl
full-field (Some R) r i t e = pick-none _ (drop (length R.params) (args_of t)) i _ (fields-many R r t) (sym (full-test R r i t) ∙ e)

pub field-full : (o : Option Record) (r i : ℕ) (t : Tree) → field_of o r i (head_of t) (args_of t) ≡ None → is_full o r i (kind t) ≡ false
field-full None r i t e = refl
field-full (Some R) r i t e = full-test R r i t ∙ none-pick _ (drop (length R.params) (args_of t)) i _ (fields-many R r t) e

-- a contracted term is of no kind that a former could ask for
const-neutral : (b : Bool) (d : ℕ) → b ≡ false → cond b (built d 0) neutral ≡ neutral
const-neutral b d e = ap (λ x. cond x (built d 0) neutral) e

beta-neutral : (E : List Decl) (f a u : Tree) → beta_of f a ≡ Some u → kind (app f a) ≡ neutral
beta-neutral E (lam p q) a u e = refl
beta-neutral E (sort s) a u e = absurd (none-some u e)
beta-neutral E (rel v) a u e = absurd (none-some u e)
beta-neutral E (pi p q) a u e = absurd (none-some u e)
beta-neutral E (app f x) a u e = absurd (none-some u e)
beta-neutral E (const c) a u e = absurd (none-some u e)
beta-neutral E (proj r i t) a u e = absurd (none-some u e)
beta-neutral E (hole h) a u e = absurd (none-some u e)

pub contract-neutral : (E : List Decl) (t u : Tree) → contract E t ≡ Some u → kind t ≡ neutral
contract-neutral E (app f a) u e = beta-neutral E f a u e
contract-neutral E (const c) u e = const-neutral c.maker c.decl (cond-none c.maker _ u e).0
contract-neutral E (proj r i t) u e = refl
contract-neutral E (sort s) u e = refl
contract-neutral E (rel v) u e = refl
contract-neutral E (pi a b) u e = refl
contract-neutral E (lam a b) u e = absurd (none-some u e)
contract-neutral E (hole h) u e = refl

-- formers around a place
made-fires : (E : List Decl) (c : Former) (a b : Tree) → contract E (make c a b) ≡ None → fires c (kind a) ≡ false
made-fires E Product a b e = refl
made-fires E Function a b e = refl
made-fires E Application a b e = beta-fires a b e

fires-made : (E : List Decl) (c : Former) (a b : Tree) → fires c (kind a) ≡ false → contract E (make c a b) ≡ None
fires-made E Product a b e = refl
fires-made E Function a b e = refl
fires-made E Application a b e = fires-beta a b e

made-kind : (c : Former) (a b : Tree) → kind (make c a b) ≡ kind_made c (kind a)
made-kind Product a b = refl
made-kind Function a b = refl
made-kind Application a b = refl

pub clear-for : (E : List Decl) (fs : List Frame) (t : Tree) → IsClear (contract E) fs t → IsClearFor E fs (kind t)
clear-for E [] t h = tt
clear-for E (left c b ∷ fs) t h =
    (made-fires E c t b h.0, subst (λ k. IsClearFor E fs k) (made-kind c t b) (clear-for E fs (make c t b) h.1))
clear-for E (right c a ∷ fs) t h =
    (made-fires E c a t h.0, h.1, subst (λ k. IsClearFor E fs k) (made-kind c a t) (clear-for E fs (make c a t) h.2))
clear-for E (under r i ∷ fs) t h = (field-full _ r.0 i t h.0, clear-for E fs (proj r i t) h.1)

pub for-clear : (E : List Decl) (fs : List Frame) (t : Tree) → IsClearFor E fs (kind t) → IsClear (contract E) fs t
for-clear E [] t h = tt
for-clear E (left c b ∷ fs) t h =
    (fires-made E c t b h.0, for-clear E fs (make c t b) (subst (λ k. IsClearFor E fs k) (sym (made-kind c t b)) h.1))
for-clear E (right c a ∷ fs) t h =
    (fires-made E c a t h.0, h.1, for-clear E fs (make c a t) (subst (λ k. IsClearFor E fs k) (sym (made-kind c a t)) h.2))
for-clear E (under r i ∷ fs) t h = (full-field _ r.0 i t h.0, for-clear E fs (proj r i t) h.1)

-- after a contraction the place is clear for a neutral term
pub found-neutral : (E : List Decl) (fs : List Frame) (t u : Tree) → IsClear (contract E) fs t → contract E t ≡ Some u → IsClearFor E fs neutral
found-neutral E fs t u h e = subst (λ k. IsClearFor E fs k) (contract-neutral E t u e) (clear-for E fs t h)

-- and for any term, if the innermost frame asks for no kind
other-fires : (c : Former) (k : Kind) (b : Tree) (fs : List Frame) → may_fire (left c b ∷ fs) ≡ false → (fires c k ≡ false) × (kind_made c k ≡ kind_made c neutral)
other-fires Product k b fs e = (refl, refl)
other-fires Function k b fs e = (refl, refl)
other-fires Application k b fs e = absurd (true≢false e)

pub neutral-any : (E : List Decl) (fs : List Frame) (k : Kind) → may_fire fs ≡ false → IsClearFor E fs neutral → IsClearFor E fs k
neutral-any E [] k e h = tt
neutral-any E (left c b ∷ fs) k e h =
    let p = other-fires c k b fs e in (p.0, subst (λ x. IsClearFor E fs x) (sym p.1) h.1)
neutral-any E (right c a ∷ fs) k e h = h
neutral-any E (under r i ∷ fs) k e h = absurd (true≢false e)

-- one level up, through a frame that may have a step
pub neutral-up : (E : List Decl) (f : Frame) (fs : List Frame) → may_fire (f ∷ fs) ≡ true → IsClearFor E (f ∷ fs) neutral → IsClearFor E fs neutral
neutral-up E (left Application b) fs e h = h.1
neutral-up E (left Product b) fs e h = absurd (true≢false (sym e))
neutral-up E (left Function b) fs e h = absurd (true≢false (sym e))
neutral-up E (right c a) fs e h = absurd (true≢false (sym e))
neutral-up E (under r i) fs e h = h.1

-- where the place has come to rest
pub settled-any : (E : List Decl) (w : Tree) (fs : List Frame) (t : Tree) → plug fs t ≡ w → may_fire fs ≡ false → IsClearFor E fs neutral → At (contract E) w fs t
settled-any E w fs t e m h = record { whole = sym e; clear = for-clear E fs t (neutral-any E fs (kind t) m h) }

pub settled-neutral : (E : List Decl) (w : Tree) (fs : List Frame) (t : Tree) → plug fs t ≡ w → kind t ≡ neutral → IsClearFor E fs neutral → At (contract E) w fs t
settled-neutral E w fs t e k h = record { whole = sym e; clear = for-clear E fs t (subst (λ x. IsClearFor E fs x) (sym k) h) }
