-- Contexts and lines, one more at a time.
use Rattle.std.proofs.Common.{true, Ok, Err, Result, slice_index_or, nat_lt, ◌≡◌, ◌<◌, ◌≤◌, ◌+◌, ◌∙◌, ℕ, zero, suc, List, [], ◌∷◌, ◌++◌, length, map, drop, Option, None, Some, refl, sym, ap, arith, slice_get, ◌-◌}
use Rattle.std.specs.Prelude.{IsSome, IfSome, IfOk}
use Rattle.std.specs.Global.{Vec}
use Rattle.std.proofs.lemmas.Bool.Decides.{nat_tests}
use Rattle.std.proofs.Math.Numerals.{suc-eq-add-one}
use Rattle.hb_reduce.specs.Spines.{SizesAre}
use Rattle.std.proofs.lemmas.List.{length-map, length-append, map-append}
use Rattle.hb_calculus.proofs.Spines.{apply-append}
use Rattle.std.proofs.lemmas.Option.{none-some, slice_get_read}
use Rattle.hb_tree.specs.Tree.{Tree, sort, rel, pi, lam, app, proj, lift, subst_at, apply}
use Rattle.hb_tree.specs.declared.leaves.Sort.{Sort}
use Rattle.hb_tree.specs.declared.leaves.RecId.{RecId}
use Rattle.hb_term.specs.Meaning.{tree}
use Rattle.hb_term.specs.declared.term.Term.{Term}
use Rattle.hb_calculus.specs.Declarations.{Decl, Record, record_in}
use Rattle.hb_calculus.specs.Telescopes.{former, projection_type}
use Rattle.hb_calculus.specs.Typing.{product_sort}
use Rattle.hb_strict.specs.Strict.{HasStrictType, strict_variable, strict_product, strict_function, strict_application, strict_projection, strict_converted, Leads, stays, leads_on, IsLinked}
use Rattle.hb_strict.specs.Tables.{IsContext, no_variables, one_more, HasContext, AreContexts, IsLine, IsAt, AreLines, IsTable, IsSorted, IsUnder, IsChain, IsRecordType}
use Rattle.hb_strict.specs.declared.link.Link.{Link}
use Rattle.hb_strict.specs.declared.table.Context.{Context}
use Rattle.hb_strict.specs.declared.table.Line.{Line}
use Rattle.hb_strict.specs.declared.table.Table.{Table}

-- what stands at a place of a longer list
at_longer : {A : Type 0} (xs ys : List A) (i : ℕ) (x : A) → slice_get xs i ≡ Some x → slice_get (xs ++ ys) i ≡ Some x
at_longer [] ys i x h = absurd (none-some x h)
at_longer (y ∷ xs) ys zero x h = h
at_longer (y ∷ xs) ys (suc i) x h = at_longer xs ys i x h

-- it stands in the list, or is the one after it
data Before {A : Type 0} (xs : List A) (y : A) (i : ℕ) (x : A) : Type 0 where
  inside : slice_get xs i ≡ Some x → Before xs y i x
  last : i ≡ length xs → x ≡ y → Before xs y i x

before : {A : Type 0} (xs : List A) (y : A) (i : ℕ) (x : A) → slice_get (xs ++ y ∷ []) i ≡ Some x → Before xs y i x
before [] y zero x h = last refl (cc)
before [] y (suc i) x h = absurd (none-some x h)
before (z ∷ xs) y zero x h = inside h
before (z ∷ xs) y (suc i) x h = by (before xs y i x h)
  where
    by : Before xs y i x → Before (z ∷ xs) y (suc i) x
    by (inside g) = inside g
    by (last e g) = last (ap suc e) g

-- the number of a context tells its types
pub context_same : {cs : List Context} {n m : ℕ} {G H : List Tree} → IsContext cs n G → IsContext cs m H → n ≡ m → G ≡ H
context_same no_variables no_variables e = refl
context_same no_variables (one_more i x g c h k) e = let z : ⊥ = omega (arith, e, k) in absurd z
context_same (one_more i x g c h k) no_variables e = let z : ⊥ = omega (arith, e, k) in absurd z
context_same (one_more {G = G} a x g c h k) (one_more {G = H} b y g' c' h' k') e =
    let ab : a ≡ b = omega (arith, e, k, k') in
    let xy : x ≡ y = some_same (sym g ∙ ap (slice_get _) ab ∙ g') in
    let gh : G ≡ H = context_same c c' (ap (λ (z : Context). z.outer) xy) in
    h ∙ (λ i. tree (xy i).ty ∷ gh i) ∙ sym h'
  where
    some_same : {A : Type 0} {u v : A} → Some u ≡ Some v → u ≡ v
    some_same p = cc

context_longer : {cs : List Context} {n : ℕ} {G : List Tree} (ds : List Context) → IsContext cs n G → IsContext (cs ++ ds) n G
context_longer ds no_variables = no_variables
context_longer ds (one_more a x g c h k) = one_more a x (at_longer _ ds a x g) (context_longer ds c) h k

pub has_context : (cs : List Context) (k : ℕ) (c : Context) → AreContexts cs → slice_get cs k ≡ Some c → HasContext cs (k + 1)
has_context cs k c h e = let o = h k c e in (tree c.ty ∷ o.0, one_more k c e o.1 refl refl)

-- one line more
lines_more : (E : List Decl) (cs : List Context) (ls : List (Option Line)) (l : Line) → AreLines E cs ls → IsLine E cs l → AreLines E cs (ls ++ Some l ∷ [])
lines_more E cs ls l h g = λ i m e. by i m (before ls (Some l) i (Some m) e)
  where
    by : (i : ℕ) (m : Line) → Before ls (Some l) i (Some m) → IsLine E cs m
    by i m (inside e) = h i m e
    by i m (last e f) = let k : m ≡ l = cc in rw k g

pub line_added : (E : List Decl) (t u : Table) (l : Line) → u.contexts ≡ t.contexts → u.lines.items ≡ t.lines.items ++ Some l ∷ [] → IsTable E t
    → IsLine E t.contexts.items l → IsTable E u
line_added E t u l c a h g = record {
  contexts = rw c h.contexts;
  lines = rw (c, a) (lines_more E t.contexts.items t.lines.items l h.lines g);
}

-- one context more, with a line that has no term
contexts_more : (cs : List Context) (c : Context) → AreContexts cs → HasContext cs c.outer → AreContexts (cs ++ c ∷ [])
contexts_more cs c h g = λ k d e. by k d (before cs c k d e)
  where
    wider : {n : ℕ} → HasContext cs n → HasContext (cs ++ c ∷ []) n
    wider o = (o.0, context_longer (c ∷ []) o.1)

    by : (k : ℕ) (d : Context) → Before cs c k d → HasContext (cs ++ c ∷ []) d.outer
    by k d (inside e) = wider (h k d e)
    by k d (last e f) = rw f (wider g)

line_longer : {E : List Decl} {cs : List Context} {l : Line} (ds : List Context) → IsLine E cs l → IsLine E (cs ++ ds) l
line_longer ds g = record { types = g.types; context = context_longer ds g.context; typed = g.typed }

pub context_added :
    (E : List Decl) (t u : Table) (c : Context) → u.contexts.items ≡ t.contexts.items ++ c ∷ [] → u.lines.items ≡ t.lines.items ++ None ∷ []
    → HasContext t.contexts.items c.outer → IsTable E t → IsTable E u
context_added E t u c a b g h = record {
  contexts = rw a (contexts_more t.contexts.items c h.contexts g);
  lines = rw (a, b) (λ i m e. line_longer (c ∷ []) (by i m (before t.lines.items None i (Some m) e)));
}
  where
    by : (i : ℕ) (m : Line) → Before t.lines.items None i (Some m) → IsLine E t.contexts.items m
    by i m (inside e) = h.lines i m e
    by i m (last e f) = absurd (none-some m (sym f))

-- a line of a sort, as a type
pub sorted_line : (E : List Decl) (t : Table) (i : ℕ) (s : Sort) (l : Line) → IsSorted t i s → IsAt t.lines.items i l → IsTable E t
    → (G : List Tree) × IsContext t.contexts.items l.context G × HasStrictType E G (tree l.term) (sort s)
sorted_line E t i s l h a g =
    let e : l ≡ h.line = cc in
    let o = g.lines i l a in
    let k : tree l.ty ≡ sort s = rw e h.is_sort in
    (o.types, o.context, rw k at o.typed)

-- the types of a context under a line's term
under : (t : Table) (i j : ℕ) (o n : Line) (G H : List Tree) → IsUnder t i j → IsAt t.lines.items i o → IsAt t.lines.items j n
    → IsContext t.contexts.items o.context G → IsContext t.contexts.items n.context H → H ≡ tree o.term ∷ G
under t i j o n G H u a b g h =
    let eo : u.outer ≡ o = cc in
    let en : u.inner ≡ n = cc in
    let k : n.context ≡ u.place + 1 = rw en at u.number in
    let s : u.context.outer ≡ o.context = rw eo at u.same in
    let y : tree u.context.ty ≡ tree o.term = rw eo at u.ty in
    let g' : IsContext t.contexts.items u.context.outer G = rw s g in
    context_same h (one_more {H = tree o.term ∷ G} u.place u.context u.at_place g' (λ x. sym y x ∷ G) k) refl

-- lines of each rule
pub sort_line : (E : List Decl) (cs : List Context) (l : Line) → HasContext cs l.context → ((G : List Tree) → HasStrictType E G (tree l.term) (tree l.ty)) → IsLine E cs l
sort_line E cs l c h = record { types = c.0; context = c.1; typed = h c.0 }

pub variable_line :
    (E : List Decl) (cs : List Context) (l : Line) (v : ℕ) (t : Tree) → HasContext cs l.context → ((G : List Tree) → IsContext cs l.context G → slice_get G v ≡ Some t)
    → tree l.term ≡ rel v → tree l.ty ≡ lift t (v + 1) 0 → IsLine E cs l
variable_line E cs l v t c h e f = record { types = c.0; context = c.1; typed = rw e (strict_variable (h c.0 c.1) f) }

pub product_line :
    (E : List Decl) (t : Table) (i j : ℕ) (o n l : Line) (a b : Sort) → IsTable E t → IsUnder t i j → IsAt t.lines.items i o → IsAt t.lines.items j n → IsSorted t i a
    → IsSorted t j b → l.context ≡ o.context → tree l.term ≡ pi (tree o.term) (tree n.term) → tree l.ty ≡ sort (product_sort a b) → IsLine E t.contexts.items l
product_line E t i j o n l a b h u ao an sa sb c e f =
    let x = sorted_line E t i a o sa ao h in
    let y = sorted_line E t j b n sb an h in
    let k : y.0 ≡ tree o.term ∷ x.0 = under t i j o n x.0 y.0 u ao an x.1 y.1 in
    record { types = x.0; context = rw c x.1; typed = rw e (strict_product x.2 (rw k at y.2) f) }

pub function_line :
    (E : List Decl) (t : Table) (i j : ℕ) (o n l : Line) (a : Sort) → IsTable E t → IsUnder t i j → IsAt t.lines.items i o → IsAt t.lines.items j n → IsSorted t i a
    → l.context ≡ o.context → tree l.term ≡ lam (tree o.term) (tree n.term) → tree l.ty ≡ pi (tree o.term) (tree n.ty) → IsLine E t.contexts.items l
function_line E t i j o n l a h u ao an sa c e f =
    let x = sorted_line E t i a o sa ao h in
    let y = h.lines j n an in
    let k : y.types ≡ tree o.term ∷ x.0 = under t i j o n x.0 y.types u ao an x.1 y.context in
    record { types = x.0; context = rw c x.1; typed = rw (e, f) (strict_function x.2 (rw k at y.typed)) }

pub application_line :
    (E : List Decl) (t : Table) (i j : ℕ) (f x l : Line) (a b : Tree) → IsTable E t → IsAt t.lines.items i f → IsAt t.lines.items j x → f.context ≡ x.context
    → tree f.ty ≡ pi a b → a ≡ tree x.ty → l.context ≡ f.context → tree l.term ≡ app (tree f.term) (tree x.term) → tree l.ty ≡ subst_at b (tree x.term) 0
    → IsLine E t.contexts.items l
application_line E t i j f x l a b h af ax s p d c e u =
    let m = h.lines i f af in
    let n = h.lines j x ax in
    let k : n.types ≡ m.types = context_same n.context m.context (sym s) in
    record {
      types = m.types;
      context = rw c m.context;
      typed = rw e (strict_application {x = tree x.term} (rw p at m.typed) (rw d (rw k at n.typed)) u);
    }

pub projection_line :
    (E : List Decl) (t : Table) (i : ℕ) (r : RecId) (field : ℕ) (x l : Line) (qs : List Term) (T : Tree) → IsTable E t → IsAt t.lines.items i x
    → (R : Record) → record_in (slice_get E r.0) ≡ Some R → slice_get R.fields field ≡ Some T → tree x.ty ≡ apply (former r.0) (map tree qs) → length qs ≡ length R.params
    → l.context ≡ x.context → tree l.term ≡ proj r field (tree x.term) → tree l.ty ≡ projection_type r T (map tree qs) field (tree x.term)
    → IsLine E t.contexts.items l
projection_line E t i r field x l qs T h ax R e g p n c f u =
    let m = h.lines i x ax in
    let k : length (map tree qs) ≡ length R.params = length-map qs tree ∙ n in
    record { types = m.types; context = rw c m.context; typed = rw f (strict_projection (map tree qs) e m.typed p k g u) }

pub converted_line :
    (E : List Decl) (t : Table) (i j : ℕ) (x y l : Line) → IsTable E t → IsChain E t i j → IsAt t.lines.items i x → IsAt t.lines.items j y → l.context ≡ x.context
    → tree l.term ≡ tree x.term → tree l.ty ≡ tree y.term → IsLine E t.contexts.items l
converted_line E t i j x y l h d ax ay c e f =
    let ex : d.line ≡ x = cc in
    let ey : d.last ≡ y = cc in
    let m = h.lines i x ax in
    let g : Leads E m.types (tree x.ty) (tree y.term) = rw (ex, ey) at (d.leads m.types (rw ex m.context)) in
    record { types = m.types; context = rw c m.context; typed = rw (e, f) (strict_converted m.typed g) }

-- chains
pub chain_begins :
    (E : List Decl) (t : Table) (i j : ℕ) (s : Sort) (x y : Line) → IsTable E t → IsSorted t j s → IsAt t.lines.items i x → IsAt t.lines.items j y → x.context ≡ y.context
    → tree x.ty ≡ tree y.term → IsChain E t i j
chain_begins E t i j s x y h sj ax ay c e =
    let o = sorted_line E t j s y sj ay h in
    record {
      line = x;
      last = y;
      at_line = ax;
      at_last = ay;
      same = sym c;
      leads =
          λ G g.
          let k : o.0 ≡ G = context_same o.1 g (sym c) in
          rw e (stays (rw k at o.2));
    }

pub chain_goes_on :
    (E : List Decl) (t : Table) (line i j : ℕ) (l : Link) (s : Sort) (x y : Line) → IsTable E t → IsChain E t line i → IsSorted t j s → IsAt t.lines.items i x
    → IsAt t.lines.items j y → x.context ≡ y.context → IsLinked E l (tree x.term) (tree y.term) → IsChain E t line j
chain_goes_on E t line i j l s x y h d sj ax ay c e =
    let o = sorted_line E t j s y sj ay h in
    let ex : d.last ≡ x = cc in
    let m : x.context ≡ d.line.context = rw ex at d.same in
    let w : y.context ≡ d.line.context = sym c ∙ m in
    record {
      line = d.line;
      last = y;
      at_line = d.at_line;
      at_last = ay;
      same = w;
      leads =
          λ G g.
          let k : o.0 ≡ G = context_same o.1 g w in
          let v : Leads E G (tree d.line.ty) (tree x.term) = rw ex at (d.leads G g) in
          leads_on l v e (rw k at o.2);
    }

-- one argument more
pub applied_more :
    (r n : ℕ) (t f a : Tree) (before all : List Term) (x : Term) → t ≡ app f a → all ≡ before ++ x ∷ [] → f ≡ apply (former r) (map tree before) → length before ≡ n - 1
    → 0 < n → tree x ≡ a → (t ≡ apply (former r) (map tree all)) × (length all ≡ n)
applied_more r n t f a before all x e g h l p k =
    let c : apply (former r) (map tree all) ≡ app (apply (former r) (map tree before)) (tree x) =
    rw (g, map-append) (apply-append (former r) (map tree before) (tree x ∷ []))
    in
    let d : length all ≡ length before + 1 = rw (g, length-append) refl in
    (e ∙ (λ i. app (h i) (sym k i)) ∙ sym c, omega (arith, d, l, p))

pub has_context_at : (cs : List Context) (n k : ℕ) (c : Context) → AreContexts cs → slice_get cs k ≡ Some c → n ≡ k + 1 → HasContext cs n
has_context_at cs n k c h e m = rw m (has_context cs k c h e)

pub zero_of : (n : ℕ) → (1 ≤ n → ⊥) → n ≡ 0
zero_of zero h = refl
zero_of (suc n) h = absurd (h (omega arith))

-- what is read at a place
pub read_of : {A : Type 0} (xs : List A) (i : ℕ) (x : A) → true ≡ nat_lt i (length xs) → x ≡ slice_index_or xs i x → slice_get xs i ≡ Some x
read_of xs i x t e = let l : i < length xs = grind (arith, nat_tests, sym t) in slice_get_read xs (length xs) i x refl l e

pub at_of : {A : Type 0} (xs : List A) (i : ℕ) → i < length xs → (x : A) × (slice_get xs i ≡ Some x)
at_of [] i h = let z : ⊥ = omega (arith, h) in absurd z
at_of (x ∷ xs) zero h = (x, refl)
at_of (x ∷ xs) (suc i) h = at_of xs i (omega (arith, h))

pub some_sorted : (t : Table) (i : ℕ) (o : Option Sort) → IfSome o (λ s. IsSorted t i s) → IsSome o → (s : Sort) × IsSorted t i s
some_sorted t i (Some s) h e = (s, h)
some_sorted t i None h e = absurd (cc)

pub ok_more : {A X : Type 0} {P Q : A → Type 0} (r : Result A X) → ((x : A) → P x → Q x) → IfOk r P → IfOk r Q
ok_more (Ok x) f h = f x h
ok_more (Err e) f h = tt

-- the innermost type of a context, and the context outside of it
pub context_inner : (cs : List Context) (n k : ℕ) (c : Context) (G : List Tree) → IsContext cs n G → slice_get cs k ≡ Some c → n ≡ k + 1
    → (slice_get G 0 ≡ Some (tree c.ty)) × IsContext cs c.outer (drop 1 G)
context_inner cs n k c G no_variables e m = let z : ⊥ = omega (arith, m) in absurd z
context_inner cs n k c G (one_more {G = H} a x g d h b) e m =
    let ab : a ≡ k = omega (arith, b, m) in
    let xc : x ≡ c = some_same (sym g ∙ ap (slice_get cs) ab ∙ e) in
    (rw (h, xc) refl, rw (h) (rw xc at d))
  where
    some_same : {A : Type 0} {u v : A} → Some u ≡ Some v → u ≡ v
    some_same p = cc

get_drop : (v : ℕ) (G : List Tree) → slice_get (drop v G) 0 ≡ slice_get G v
get_drop zero G = refl
get_drop (suc v) [] = refl
get_drop (suc v) (x ∷ G) = get_drop v G

drop_more : (v : ℕ) (G : List Tree) → drop 1 (drop v G) ≡ drop (v + 1) G
drop_more v G = rw (← suc-eq-add-one v) (by v G)
  where
    by : (v : ℕ) (G : List Tree) → drop 1 (drop v G) ≡ drop (suc v) G
    by zero G = refl
    by (suc v) [] = refl
    by (suc v) (x ∷ G) = by v G

pub passes : (cs : List Context) (n k v : ℕ) (c : Context) (G : List Tree) → IsContext cs n (drop v G) → slice_get cs k ≡ Some c → n ≡ k + 1 → IsContext cs c.outer (drop (v + 1) G)
passes cs n k v c G h e m = rw (drop_more v G) at (context_inner cs n k c (drop v G) h e m).1

pub is_innermost : (cs : List Context) (n k v w : ℕ) (c : Context) (G : List Tree) → IsContext cs n (drop v G) → slice_get cs k ≡ Some c → n ≡ k + 1 → v ≡ w → slice_get G w ≡ Some (tree c.ty)
is_innermost cs n k v w c G h e m q = rw (← q, ← get_drop v G) (context_inner cs n k c (drop v G) h e m).0

pub record_type :
    (E : List Decl) (r i : ℕ) (t : Tree) (p : ℕ × ℕ) (o : Option (Vec Term)) → SizesAre (record_in (slice_get E r)) (Some p) → i < p.1
    → IfSome o (λ qs. (t ≡ apply (former r) (map tree qs.items)) × (length qs.items ≡ p.0)) → IfSome o (λ qs. IsRecordType E r i t qs.items)
record_type E r i t p None s l h = tt
record_type E r i t p (Some qs) s l h = by (record_in (slice_get E r)) refl s
  where
    by : (R : Option Record) → record_in (slice_get E r) ≡ R → SizesAre R (Some p) → IsRecordType E r i t qs.items
    by None e s = absurd s
    by (Some R) e s = record { record_at = R; is_record = e; has_field = omega (arith, l, s.1); ty = h.0; count = h.1 ∙ s.0 }
