-- Ending lines, one more at a time.
use Rattle.std.proofs.Common.{◌≤◌, nat_eq, Ok, Err, Result, ◌≡◌, ◌<◌, ◌+◌, ◌∙◌, ℕ, zero, suc, List, [], ◌∷◌, ◌++◌, length, take, get_or, Option, None, Some, refl, sym, ap, arith}
use Rattle.std.proofs.lemmas.List.{map-append, take_more, append_assoc, length-map}
use Rattle.std.proofs.lemmas.Option.{none-some}
use Rattle.std.proofs.lemmas.Bool.Decides.{nat_tests}
use Rattle.std.specs.Prelude.{OnOk, IsTrue}
use Rattle.hb_calculus.specs.Scope.{IsScoped, AreScoped}
use Rattle.hb_tree.specs.Tree.{Tree, sort}
use Rattle.hb_tree.specs.declared.leaves.Sort.{Sort}
use Rattle.hb_tree.specs.declared.leaves.Sort.TheVariants.{Level}
use Rattle.hb_term.specs.Meaning.{tree}
use Rattle.hb_term.specs.declared.term.Term.{Term}
use Rattle.hb_base.specs.declared.name_id.NameId.{NameId}
use Rattle.hb_calculus.specs.Declarations.{Decl, field_types}
use Rattle.hb_calculus.specs.Conversion.{IsSortBelow}
use Rattle.hb_calculus.specs.Typing.{extended}
use Rattle.hb_env.specs.Plain.{trees, plain_field, plain_fields}
use Rattle.hb_strict.specs.Strict.{HasStrictType, IsStrictType, AreStrictTypes, AreStrictTypesBelow, IsStrict, AreStrict}
use Rattle.hb_strict.specs.Tables.{IsContext, no_variables, one_more, IsAt, IsTable, IsSorted, IsUnder}
use Rattle.hb_strict.proofs.TableLemmas.{context_same, sorted_line}
use Rattle.hb_strict.specs.declared.table.Line.{Line}
use Rattle.hb_strict.specs.declared.table.Table.{Table}
use Rattle.hb_cert.specs.Ends.{IsAtMost, EndsType, EndsClosed, EndsBody, EndsParams, EndFields}

append_nil : {A : Type 0} (xs : List A) → xs ++ [] ≡ xs
append_nil [] = refl
append_nil (x ∷ xs) = ap (λ l. x ∷ l) (append_nil xs)

length-take-le : {A : Type 0} (i : ℕ) (xs : List A) → i < length xs → length (take i xs) ≡ i
length-take-le zero xs h = refl
length-take-le (suc i) [] h = let z : ⊥ = omega (arith, h) in absurd z
length-take-le (suc i) (x ∷ xs) h = ap suc (length-take-le i xs (omega (arith, h)))

types_append : (xs ys : List (ℕ × Tree)) → field_types (xs ++ ys) ≡ field_types xs ++ field_types ys
types_append [] ys = refl
types_append (x ∷ xs) ys = ap (λ l. x.1 ∷ l) (types_append xs ys)

types_length : (xs : List (ℕ × Tree)) → length (field_types xs) ≡ length xs
types_length [] = refl
types_length (x ∷ xs) = ap suc (types_length xs)

fields_taken : (fs : List (NameId × Term)) (i : ℕ) (x : NameId × Term) → i < length fs → x ≡ get_or fs i x
    → field_types (plain_fields (take (i + 1) fs)) ≡ field_types (plain_fields (take i fs)) ++ tree x.1 ∷ []
fields_taken fs i x l e =
    ap (λ ys. field_types (plain_fields ys)) (rw (← e) at (take_more fs i x l)) ∙ ap field_types (map-append plain_field (take i fs) (x ∷ []))
    ∙ types_append (plain_fields (take i fs)) (plain_fields (x ∷ []))

extended_more : (G xs : List Tree) (a : Tree) → extended G (xs ++ a ∷ []) ≡ a ∷ extended G xs
extended_more G [] a = refl
extended_more G (x ∷ xs) a = extended_more (x ∷ G) xs a

types_more : (E : List Decl) (G xs : List Tree) (a : Tree) → AreStrictTypes E G xs → IsStrictType E (extended G xs) a → AreStrictTypes E G (xs ++ a ∷ [])
types_more E G [] a h g = (g, tt)
types_more E G (x ∷ xs) a h g = (h.0, types_more E (x ∷ G) xs a h.1 g)

below_more :
    (E : List Decl) (k : ℕ) (G xs : List Tree) (a : Tree) → AreStrictTypesBelow E k G xs → (s : Sort) → HasStrictType E (extended G xs) a (sort s) → IsSortBelow s (Level k)
    → AreStrictTypesBelow E k G (xs ++ a ∷ [])
below_more E k G [] a h s g l = ((s, g, l), tt)
below_more E k G (x ∷ xs) a h s g l = (h.0, below_more E k (x ∷ G) xs a h.1 s g l)

-- a type's line, in no context or under the line before
pub ends_first :
    (t : Table) (at : ℕ) (ty : Tree) (most : Option Sort) (s : Sort) (l : Line) → IsSorted t at s → IsAt t.lines.items at l → tree l.term ≡ ty → IsAtMost s most
    → l.context ≡ 0 → EndsType t None ty most at
ends_first t at ty most s l sl al e b z = λ E h G n.
    let o = sorted_line E t at s l sl al h in
    let k : o.0 ≡ [] = context_same o.1 no_variables z in
    let g : o.0 ≡ G = k ∙ sym n in
    record {
      sort_is = s;
      typed = rw (g, e) at o.2;
      below = b;
      next = record { line = l; types = o.0; at = al; context = o.1; next = λ i. sym e i ∷ sym g i };
    }

pub ends_next :
    (t : Table) (before at : ℕ) (ty : Tree) (most : Option Sort) (s : Sort) (l : Line) → IsSorted t at s → IsAt t.lines.items at l → tree l.term ≡ ty → IsAtMost s most
    → IsUnder t before at → EndsType t (Some before) ty most at
ends_next t before at ty most s l sl al e b u = λ E h G n.
    let o = sorted_line E t at s l sl al h in
    let eo : u.outer ≡ n.line = cc in
    let en : u.inner ≡ l = cc in
    let c : l.context ≡ u.place + 1 = rw en at u.number in
    let q : u.context.outer ≡ n.line.context = rw eo at u.same in
    let y : tree u.context.ty ≡ tree n.line.term = rw eo at u.ty in
    let p : IsContext t.contexts.items u.context.outer n.types = rw q n.context in
    let w : IsContext t.contexts.items l.context G = one_more u.place u.context u.at_place p (n.next ∙ (λ i. sym y i ∷ n.types)) c in
    let g : o.0 ≡ G = context_same o.1 w refl in
    record {
      sort_is = s;
      typed = rw (g, e) at o.2;
      below = b;
      next = record { line = l; types = o.0; at = al; context = o.1; next = λ i. sym e i ∷ sym g i };
    }

pub closed_end : (t : Table) (ty : Tree) (at : ℕ) → EndsType t None ty None at → EndsClosed t ty
closed_end t ty at h = λ E g. let o = h E g [] refl in (o.sort_is, o.typed)

pub body_line : (t : Table) (at : ℕ) (body ty : Tree) (l : Line) → IsAt t.lines.items at l → l.context ≡ 0 → tree l.term ≡ body → tree l.ty ≡ ty → EndsBody t body ty
body_line t at body ty l al z e f = λ E h.
    let o = h.lines at l al in
    let k : o.types ≡ [] = context_same o.context no_variables z in
    rw (k, e, f) at o.typed

-- parameters and fields
pub params_more :
    (t : Table) (ps : List Term) (i : ℕ) (x : Term) (b : Option ℕ) (at : ℕ) → i < length ps → x ≡ get_or ps i x → EndsParams t (trees (take i ps)) b
    → EndsType t b (tree x) None at → EndsParams t (trees (take (i + 1) ps)) (Some at)
params_more t ps i x b at l e h g = λ E d.
    let k : trees (take (i + 1) ps) ≡ trees (take i ps) ++ tree x ∷ [] = ap trees (rw (← e) at (take_more ps i x l)) ∙ map-append tree (take i ps) (x ∷ []) in
    let o = h E d in
    let n = g E d (extended [] (trees (take i ps))) o.1 in
    rw k (types_more E [] (trees (take i ps)) (tree x) o.0 (n.sort_is, n.typed), rw (extended_more [] (trees (take i ps)) (tree x)) n.next)

pub fields_more :
    (t : Table) (before : Option ℕ) (k : ℕ) (fs : List (NameId × Term)) (i : ℕ) (x : NameId × Term) (b : Option ℕ) (at : ℕ) → i < length fs → x ≡ get_or fs i x
    → EndFields t before k (field_types (plain_fields (take i fs))) b → EndsType t b (tree x.1) (Some (Level k)) at
    → EndFields t before k (field_types (plain_fields (take (i + 1) fs))) (Some at)
fields_more t before k fs i x b at l e h g = λ E d G n.
    let xs : List Tree = field_types (plain_fields (take i fs)) in
    let q : field_types (plain_fields (take (i + 1) fs)) ≡ xs ++ tree x.1 ∷ [] = fields_taken fs i x l e in
    let o = h E d G n in
    let m = g E d (extended G xs) o.1 in
    rw q (below_more E k G xs (tree x.1) o.0 m.sort_is m.typed m.below, rw (extended_more G xs (tree x.1)) m.next)

-- one declaration more
pub strict_more : (E ds : List Decl) (d : Decl) → AreStrict E ds → IsStrict (E ++ ds) d → AreStrict E (ds ++ d ∷ [])
strict_more E [] d h g = let e : E ++ [] ≡ E = append_nil E in (rw e at g, tt)
strict_more E (x ∷ ds) d h g = (h.0, strict_more (E ++ x ∷ []) ds d h.1 (rw (← append_assoc E (x ∷ []) ds) at g))

pub strict_next : (E : List Decl) (d : Decl) → AreStrict [] E → IsStrict E d → AreStrict [] (E ++ d ∷ [])
strict_next E d h g = strict_more [] E d h g

pub empty_table : (E : List Decl) (t : Table) → t.contexts.items ≡ [] → t.lines.items ≡ [] → IsTable E t
empty_table E t a b = record {
  contexts = rw a (λ k c e. absurd (none-some c e));
  lines = rw (a, b) (λ i l e. absurd (none-some (Some l) e));
}

-- terms under one variable more than the one before
scoped_next : (n m : ℕ) (xs : List Tree) (a : Tree) → AreScoped n xs → IsScoped m a → m ≡ n + length xs → AreScoped n (xs ++ a ∷ [])
scoped_next n m [] a h g e = let k : m ≡ n = omega (arith, e) in (rw k at g, tt)
scoped_next n m (x ∷ xs) a h g e = let k : m ≡ (n + 1) + length xs = omega (arith, e) in (h.0, scoped_next (n + 1) m xs a h.1 g k)

pub scoped_append : (n m : ℕ) (xs ys : List Tree) → AreScoped n xs → AreScoped m ys → m ≡ n + length xs → AreScoped n (xs ++ ys)
scoped_append n m [] ys h g e = let k : m ≡ n = omega (arith, e) in rw k at g
scoped_append n m (x ∷ xs) ys h g e = let k : m ≡ (n + 1) + length xs = omega (arith, e) in (h.0, scoped_append (n + 1) m xs ys h.1 g k)

pub params_scoped :
    (ps : List Term) (i b : ℕ) (x : Term) → i < length ps → x ≡ get_or ps i x → b ≡ i → AreScoped 0 (trees (take i ps)) → IsScoped b (tree x)
    → AreScoped 0 (trees (take (i + 1) ps))
params_scoped ps i b x l e q h g =
    let k : trees (take (i + 1) ps) ≡ trees (take i ps) ++ tree x ∷ [] = ap trees (rw (← e) at (take_more ps i x l)) ∙ map-append tree (take i ps) (x ∷ []) in
    let n : length (trees (take i ps)) ≡ i = length-map (take i ps) tree ∙ length-take-le i ps l in
    rw k (scoped_next 0 b (trees (take i ps)) (tree x) h g (omega (arith, q, n)))

pub fields_scoped :
    (fs : List (NameId × Term)) (n i b : ℕ) (x : NameId × Term) → i < length fs → x ≡ get_or fs i x → b ≡ n + i
    → AreScoped n (field_types (plain_fields (take i fs))) → IsScoped b (tree x.1) → AreScoped n (field_types (plain_fields (take (i + 1) fs)))
fields_scoped fs n i b x l e q h g =
    let xs : List Tree = field_types (plain_fields (take i fs)) in
    let k : field_types (plain_fields (take (i + 1) fs)) ≡ xs ++ tree x.1 ∷ [] = fields_taken fs i x l e in
    let m : length xs ≡ i = types_length (plain_fields (take i fs)) ∙ length-map (take i fs) plain_field ∙ length-take-le i fs l in
    rw k (scoped_next n b xs (tree x.1) h g (omega (arith, q, m)))

pub taken_all : {A : Type 0} (xs : List A) (i : ℕ) → length xs ≤ i → take i xs ≡ xs
taken_all [] zero h = refl
taken_all [] (suc i) h = refl
taken_all (x ∷ xs) zero h = let z : ⊥ = omega (arith, h) in absurd z
taken_all (x ∷ xs) (suc i) h = ap (λ l. x ∷ l) (taken_all xs i (omega (arith, h)))

pub on_ok : {A X : Type 0} {P Q : Type 0} (r : Result A X) → (P → Q) → OnOk r P → OnOk r Q
on_ok (Ok x) f h = f h
on_ok (Err e) f h = tt

pub on_ok_always : {A X : Type 0} {P : Type 0} (r : Result A X) → P → OnOk r P
on_ok_always (Ok x) h = h
on_ok_always (Err e) h = tt

pub is_zero : (n : ℕ) → IsTrue (nat_eq n 0) → n ≡ 0
is_zero n t = grind (arith, nat_tests, t)
