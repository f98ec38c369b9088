-- Equations of parts and projections, one more at a time.
use Rattle.std.proofs.Common.{◌≡◌, ◌≢◌, ◌<◌, ◌+◌, ◌∙◌, ℕ, zero, suc, List, [], ◌∷◌, ◌++◌, length, map, take, drop, get_or, refl, sym, ap, arith, Option, Some, None, min}
use Rattle.std.specs.Prelude.{option_map, slice_get, nat_lt, ◌==◌, true}
use Rattle.std.proofs.lemmas.Bool.Decides.{nat_tests}
use Rattle.hb_calculus.specs.Declarations.{Decl, Record, record_in}
use Rattle.hb_reduce.specs.Spines.{SizesAre}
use Rattle.hb_tree.specs.declared.leaves.ConstId.{ConstId}
use Rattle.std.proofs.lemmas.List.{map-append, take_more, length-take, length-map}
use Rattle.std.proofs.Math.Numerals.{suc-eq-add-one}
use Rattle.hb_calculus.specs.Telescopes.{projections}
use Rattle.hb_tree.specs.Tree.{Tree, const, proj, head_of, args_of}
use Rattle.hb_tree.specs.declared.leaves.RecId.{RecId}
use Rattle.hb_term.specs.Meaning.{tree}
use Rattle.hb_term.specs.declared.term.Term.{Term}
use Rattle.hb_equations.specs.declared.relation.Relation.TheVariants.{Equal}
use Rattle.hb_equations.specs.Forms.{Goal, goal, pairs, made, made_of}
use Rattle.hb_unify.specs.declared.act.Goal as code
use Rattle.hb_unify.specs.Plain.{goal_of, goals}

pub pairs_apart : (n : ℕ) (xs ys : List Tree) → length xs ≢ length ys → pairs n xs ys ≡ None
pairs_apart n [] [] h = absurd (h refl)
pairs_apart n [] (y ∷ ys) h = refl
pairs_apart n (x ∷ xs) [] h = refl
pairs_apart n (x ∷ xs) (y ∷ ys) h =
    let k : length xs ≢ length ys = λ e. h (ap suc e) in
    ap (option_map (λ q. goal n Equal x y ∷ q)) (pairs_apart n xs ys k)

between : (a b : Goal) (o : Option (List Goal)) → option_map (λ q. a ∷ q) (option_map (λ q. q ++ b ∷ []) o) ≡ option_map (λ q. q ++ b ∷ []) (option_map (λ q. a ∷ q) o)
between a b None = refl
between a b (Some q) = refl

pub pairs_snoc :
    (n : ℕ) (xs ys : List Tree) (x y : Tree) → length xs ≡ length ys
    → pairs n (xs ++ x ∷ []) (ys ++ y ∷ []) ≡ option_map (λ q. q ++ goal n Equal x y ∷ []) (pairs n xs ys)
pairs_snoc n [] [] x y l = refl
pairs_snoc n [] (v ∷ ys) x y l = let z : ⊥ = omega (arith, l) in absurd z
pairs_snoc n (u ∷ xs) [] x y l = let z : ⊥ = omega (arith, l) in absurd z
pairs_snoc n (u ∷ xs) (v ∷ ys) x y l =
    let k : length xs ≡ length ys = omega (arith, l) in
    ap (option_map (λ q. goal n Equal u v ∷ q)) (pairs_snoc n xs ys x y k) ∙ between (goal n Equal u v) (goal n Equal x y) (pairs n xs ys)

pub pairs_next :
    (n : ℕ) (xs ys : List Term) (i : ℕ) (x y : Term) (qs : List code.Goal) (q : code.Goal) → length xs ≡ length ys
    → i < length xs → x ≡ get_or xs i x → y ≡ get_or ys i y → pairs n (map tree (take i xs)) (map tree (take i ys)) ≡ Some (goals qs)
    → goal_of q ≡ goal n Equal (tree x) (tree y)
    → pairs n (map tree (take (i + 1) xs)) (map tree (take (i + 1) ys)) ≡ Some (goals (qs ++ q ∷ []))
pairs_next n xs ys i x y qs q w h e f p g =
    let k : i < length ys = omega (arith, w, h) in
    let t : take (i + 1) xs ≡ take i xs ++ x ∷ [] = rw (← e) at (take_more xs i x h) in
    let u : take (i + 1) ys ≡ take i ys ++ y ∷ [] = rw (← f) at (take_more ys i y k) in
    let l : length (map tree (take i xs)) ≡ length (map tree (take i ys)) =
    length-map (take i xs) tree ∙ length-take i xs ∙ ap (λ m. min i m) w ∙ sym (length-take i ys) ∙ sym (length-map (take i ys) tree) in
    rw (t, u, map-append, map-append, map-append, g) (pairs_snoc n _ _ (tree x) (tree y) l ∙ ap (option_map (λ z. z ++ goal n Equal (tree x) (tree y) ∷ [])) p)

projections_snoc : (r : RecId) (j n : ℕ) (t : Tree) → projections r j (suc n) t ≡ projections r j n t ++ proj r (j + n) t ∷ []
projections_snoc r j zero t = let e : j + 0 ≡ j = omega arith in rw e refl
projections_snoc r j (suc n) t = let e : j + suc n ≡ j + 1 + n = omega arith in rw e (ap (λ l. proj r j t ∷ l) (projections_snoc r (j + 1) n t))

pub projections_next : (r : RecId) (n : ℕ) (t : Tree) → projections r 0 (n + 1) t ≡ projections r 0 n t ++ proj r n t ∷ []
projections_next r n t = let e : 0 + n ≡ n = omega arith in rw (← suc-eq-add-one n) (rw e at (projections_snoc r 0 n t))

-- what an option says of the one that it is mapped to
pub some_of : {A B : Type 0} (f : A → B) (o : Option A) (x : A) (p : Option B) → o ≡ Some x → option_map f o ≡ p → p ≡ Some (f x)
some_of f o x p e h = rw e at (sym h)

pub none_of : {A B : Type 0} (f : A → B) (o : Option A) (p : Option B) → o ≡ None → option_map f o ≡ p → p ≡ None
none_of f o p e h = rw e at (sym h)

-- the fields of a full maker
map_drop : (n : ℕ) (xs : List Term) → map tree (drop n xs) ≡ drop n (map tree xs)
map_drop zero xs = refl
map_drop (suc n) [] = refl
map_drop (suc n) (x ∷ xs) = map_drop n xs

full : (o : Option Record) (r p f : ℕ) (args : List Tree) → SizesAre o (Some (p, f)) → 0 < f → length args ≡ p + f
    → made_of o r args ≡ Some (record { made_by = record { 0 = r }; fields = drop p args })
full None r p f args s z l = absurd s
full (Some R) r p f args s z l =
    let a : nat_lt 0 (length R.fields) ≡ true = let e = s.1 in grind (arith, nat_tests) in
    let b : (length args == length R.params + length R.fields) ≡ true = let e = s.0 in let g = s.1 in grind (arith, nat_tests) in
    rw (a, b, ← s.0) refl

pub made_full :
    (E : List Decl) (t : Tree) (c : ConstId) (p f : ℕ) (ts fs : List Term) → head_of t ≡ const c → c.maker ≡ true
    → SizesAre (record_in (slice_get E c.decl)) (Some (p, f)) → 0 < f → map tree ts ≡ args_of t → length ts ≡ p + f → fs ≡ drop p ts
    → Some (record { made_by = record { 0 = c.decl }; fields = map tree fs }) ≡ made E t
made_full E t c p f ts fs h m s z a l e =
    let k : length (map tree ts) ≡ p + f = length-map ts tree ∙ l in
    rw (h, m, ← a, e, map_drop) (sym (full (record_in (slice_get E c.decl)) c.decl p f (map tree ts) s z k))
