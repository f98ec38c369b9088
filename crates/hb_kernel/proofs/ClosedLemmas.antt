-- What is declared has no variable from outside its telescope.
use Rattle.std.proofs.Common.{◌≡◌, ℕ, zero, suc, ◌+◌, ◌≤◌, Bool, true, false, cond, List, [], ◌∷◌, ◌++◌, length, subst, refl, arith, length-append}
use Rattle.std.specs.Prelude.{Option, Some, None, slice_get}
use Rattle.std.proofs.lemmas.Option.{none-some}
use Rattle.hb_tree.specs.Tree.{Tree, sort, loose, subst_at, apply, app}
use Rattle.hb_tree.specs.declared.leaves.ConstId.{ConstId}
use Rattle.hb_tree.specs.declared.leaves.RecId.{RecId}
use Rattle.hb_tree.specs.declared.leaves.Sort.TheVariants.{Level}
use Rattle.hb_tree.proofs.Sizes.{loose_subst}
use Rattle.hb_calculus.specs.Declarations.{Decl, an_axiom, a_definition, a_record, field_types, Record, record_in}
use Rattle.hb_calculus.specs.Telescopes.{products, variables, former, maker_type, type_in, projections, filled, projection_type}
use Rattle.hb_calculus.specs.Scope.{AreScoped, IsScopedDecl}
use Rattle.hb_calculus.proofs.Options.{Some-injective}
use Rattle.hb_env.specs.Environment.{AreScopedDecls}
use Rattle.hb_record.proofs.FilledLemmas.{length_projections}
use Rattle.hb_kernel.specs.Applied.{AreLoose}

pub scoped-decl : (E : List Decl) (i : ℕ) (d : Decl) → AreScopedDecls E → slice_get E i ≡ Some d → IsScopedDecl d
scoped-decl [] i d h e = absurd (none-some d e)
scoped-decl (x ∷ E) zero d h e = subst (λ y. IsScopedDecl y) (Some-injective x d e) h.0
scoped-decl (x ∷ E) (suc i) d h e = scoped-decl E i d h.1 e

pub apply-loose : (m : ℕ) (f : Tree) (xs : List Tree) → loose f ≤ m → AreLoose m xs → loose (apply f xs) ≤ m
apply-loose m f [] h k = h
apply-loose m f (x ∷ xs) h k = let g = k.0 in apply-loose m (app f x) xs (omega arith) k.1

pub variables-loose : (n k m : ℕ) → n + k ≤ m → AreLoose m (variables n k)
variables-loose zero k m h = tt
variables-loose (suc n) k m h = (omega arith, variables-loose n k m (omega arith))

pub products-loose : (ts : List Tree) (b : Tree) (n : ℕ) → AreScoped n ts → loose b ≤ n + length ts → loose (products ts b) ≤ n
products-loose [] b n h k = omega arith
products-loose (t ∷ ts) b n h k =
    let f = h.0.variables in
    let g : loose (products ts b) ≤ n + 1 = products-loose ts b (n + 1) h.1 (omega arith) in
    omega arith

first-scoped : (n : ℕ) (ts us : List Tree) → AreScoped n (ts ++ us) → AreScoped n ts
first-scoped n [] us h = tt
first-scoped n (t ∷ ts) us h = (h.0, first-scoped (n + 1) ts us h.1)

-- the type of what is declared is closed
plain-closed : (b : Bool) (t u : Tree) → loose t ≤ 0 → cond b None (Some t) ≡ Some u → loose u ≤ 0
plain-closed true t u h e = absurd (none-some u e)
plain-closed false t u h e = subst (λ x. loose x ≤ 0) (Some-injective t u e) h

record-closed : (b : Bool) (x y u : Tree) → loose x ≤ 0 → loose y ≤ 0 → Some (cond b x y) ≡ Some u → loose u ≤ 0
record-closed true x y u h k e = subst (λ z. loose z ≤ 0) (Some-injective x u e) h
record-closed false x y u h k e = subst (λ z. loose z ≤ 0) (Some-injective y u e) k

maker-closed : (r : ℕ) (ps fs : List Tree) (k : ℕ) → AreScoped 0 (ps ++ fs) → loose (maker_type r (record { params = ps; level = k; fields = fs })) ≤ 0
maker-closed r ps fs k h =
    let e = length-append ps fs in
    products-loose (ps ++ fs) (apply (former r) (variables (length ps) (length fs))) 0 h
    (apply-loose (0 + length (ps ++ fs)) (former r) (variables (length ps) (length fs)) (omega arith)
    (variables-loose (length ps) (length fs) (0 + length (ps ++ fs)) (omega arith)))

type_in-closed : (o : Option Decl) (c : ConstId) (u : Tree) → ((d : Decl) → o ≡ Some d → IsScopedDecl d) → type_in o c ≡ Some u → loose u ≤ 0
type_in-closed None c u h e = absurd (none-some u e)
type_in-closed (Some (an_axiom n t)) c u h e = plain-closed c.maker t u ((h (an_axiom n t) refl).variables) e
type_in-closed (Some (a_definition n t b)) c u h e = plain-closed c.maker t u ((h (a_definition n t b) refl).0.variables) e
type_in-closed (Some (a_record n m ps k fs)) c u h e =
    let s : AreScoped 0 (ps ++ field_types fs) = h (a_record n m ps k fs) refl in
    record-closed c.maker _ _ u (maker-closed c.decl ps (field_types fs) k s)
    (products-loose ps (sort (Level k)) 0 (first-scoped 0 ps (field_types fs) s) (omega arith))
    e

pub type-closed : (E : List Decl) (c : ConstId) (u : Tree) → AreScopedDecls E → type_in (slice_get E c.decl) c ≡ Some u → loose u ≤ 0
type-closed E c u h e = type_in-closed (slice_get E c.decl) c u (λ d k. scoped-decl E c.decl d h k) e

-- values put in
pub append-loose : (m : ℕ) (xs ys : List Tree) → AreLoose m xs → AreLoose m ys → AreLoose m (xs ++ ys)
append-loose m [] ys h k = k
append-loose m (x ∷ xs) ys h k = (h.0, append-loose m xs ys h.1 k)

pub filled-loose : (t : Tree) (vs : List Tree) (m : ℕ) → loose t ≤ m + length vs → AreLoose m vs → loose (filled t vs) ≤ m
filled-loose t [] m h k = omega arith
filled-loose t (v ∷ vs) m h k =
    let g = k.0 in
    filled-loose (subst_at t v (length vs)) vs m
    (loose_subst t v (length vs) (m + length vs) (omega arith) (omega arith) (omega arith))
    k.1

pub projections-loose : (r : RecId) (i n : ℕ) (t : Tree) (m : ℕ) → loose t ≤ m → AreLoose m (projections r i n t)
projections-loose r i zero t m h = tt
projections-loose r i (suc n) t m h = (h, projections-loose r (i + 1) n t m h)

field-scoped : (n : ℕ) (ps fs : List Tree) (i : ℕ) (F : Tree) → AreScoped n (ps ++ fs) → slice_get fs i ≡ Some F → loose F ≤ n + length ps + i
field-scoped n [] [] i F h e = absurd (none-some F e)
field-scoped n [] (f ∷ fs) zero F h e =
    let g = subst (λ x. loose x ≤ n) (Some-injective f F e) h.0.variables in omega arith
field-scoped n [] (f ∷ fs) (suc i) F h e =
    let g = field-scoped (n + 1) [] fs i F h.1 e in omega arith
field-scoped n (p ∷ ps) fs i F h e = let g = field-scoped (n + 1) ps fs i F h.1 e in omega arith

record-field : (o : Option Decl) (R : Record) (i : ℕ) (F : Tree) → ((d : Decl) → o ≡ Some d → IsScopedDecl d) → record_in o ≡ Some R → slice_get R.fields i ≡ Some F → loose F ≤ length R.params + i
record-field None R i F h e k = absurd (none-some R e)
record-field (Some (an_axiom n t)) R i F h e k = absurd (none-some R e)
record-field (Some (a_definition n t b)) R i F h e k = absurd (none-some R e)
record-field (Some (a_record n m ps l fs)) R i F h e k =
    let same = Some-injective _ R e in
    subst (λ (X : Record). slice_get X.fields i ≡ Some F → loose F ≤ length X.params + i) same
    (λ g. let f = field-scoped 0 ps (field_types fs) i F (h (a_record n m ps l fs) refl) g in omega arith)
    k

-- the type of a projection is in the scope of the parameters and of what is projected
pub projection-loose :
    (E : List Decl) (r : RecId) (R : Record) (i : ℕ) (F t : Tree) (qs : List Tree) (m : ℕ) → AreScopedDecls E → record_in (slice_get E r.0) ≡ Some R → slice_get R.fields i ≡ Some F
    → length qs ≡ length R.params → AreLoose m qs → loose t ≤ m → loose (projection_type r F qs i t) ≤ m
projection-loose E r R i F t qs m h e k l p q =
    let f : loose F ≤ length R.params + i = record-field (slice_get E r.0) R i F (λ d g. scoped-decl E r.0 d h g) e k in
    let c = length-append qs (projections r 0 i t) in
    let j = length_projections r 0 i t in
    filled-loose F (qs ++ projections r 0 i t) m (omega (arith, f, c, j, l)) (append-loose m qs (projections r 0 i t) p (projections-loose r 0 i t m q))
