-- The test of equal terms.
use Rattle.std.proofs.Common.{◌≡◌, sym, refl, ap, List, [], ◌∷◌, eqb-true, eq-eqb, true≢false}
use Rattle.std.specs.Prelude.{Bool, true, false, ◌&&◌, ◌==◌}
use Rattle.hb_tree.specs.Tree.{Tree, sort, rel, pi, lam, app, const, proj, hole}
use Rattle.hb_tree.specs.declared.leaves.Sort.{Sort}
use Rattle.hb_tree.specs.declared.leaves.Sort.TheVariants.{Prop, Level}
use Rattle.hb_calculus.specs.Contraction.{same_sort, same_flag, same_tree, same_trees}
use Rattle.hb_calculus.proofs.Options.{both}

pub both-true : (a b : Bool) → a ≡ true → b ≡ true → (a && b) ≡ true
both-true a b p q = rw (p, q)

sorts-same : (s s' : Sort) → same_sort s s' ≡ true → s ≡ s'
sorts-same Prop Prop h = refl
sorts-same (Level j) (Level k) h = ap Level (eqb-true j k h)
sorts-same s s' h = absurd (true≢false (sym h))

flags-same : (a b : Bool) → same_flag a b ≡ true → a ≡ b
flags-same true true h = refl
flags-same true false h = absurd (true≢false (sym h))
flags-same false true h = absurd (true≢false (sym h))
flags-same false false h = refl

pub trees-same : (t u : Tree) → same_tree t u ≡ true → t ≡ u
trees-same (sort s) (sort s') h = ap sort (sorts-same s s' h)
trees-same (rel v) (rel w) h = ap rel (eqb-true v w h)
trees-same (pi a b) (pi a' b') h =
    let p = both (same_tree a a') (same_tree b b') h in
    λ i. pi (trees-same a a' p.0 i) (trees-same b b' p.1 i)
trees-same (lam a b) (lam a' b') h =
    let p = both (same_tree a a') (same_tree b b') h in
    λ i. lam (trees-same a a' p.0 i) (trees-same b b' p.1 i)
trees-same (app f a) (app f' a') h =
    let p = both (same_tree f f') (same_tree a a') h in
    λ i. app (trees-same f f' p.0 i) (trees-same a a' p.1 i)
trees-same (const c) (const d) h =
    let p = both (c.decl == d.decl) (same_flag c.maker d.maker) h in
    let e : c.decl ≡ d.decl = eqb-true c.decl d.decl p.0 in
    let f : c.maker ≡ d.maker = flags-same c.maker d.maker p.1 in
    λ i. const (record { decl = e i; maker = f i })
trees-same (proj r i t) (proj s j u) h =
    let p = both ((r.0 == s.0) && (i == j)) (same_tree t u) h in
    let q = both (r.0 == s.0) (i == j) p.0 in
    let e : r.0 ≡ s.0 = eqb-true r.0 s.0 q.0 in
    let f : i ≡ j = eqb-true i j q.1 in
    λ k. proj (record { 0 = e k }) (f k) (trees-same t u p.1 k)
trees-same (hole g) (hole h') h = ap hole (eqb-true g h' h)
trees-same t u h = absurd (true≢false (sym h))

sort-itself : (s : Sort) → same_sort s s ≡ true
sort-itself Prop = refl
sort-itself (Level k) = eq-eqb k k refl

flag-itself : (b : Bool) → same_flag b b ≡ true
flag-itself true = refl
flag-itself false = refl

pub tree-itself : (t : Tree) → same_tree t t ≡ true
tree-itself (sort s) = sort-itself s
tree-itself (rel v) = eq-eqb v v refl
tree-itself (pi a b) = both-true (same_tree a a) (same_tree b b) (tree-itself a) (tree-itself b)
tree-itself (lam a b) = both-true (same_tree a a) (same_tree b b) (tree-itself a) (tree-itself b)
tree-itself (app f a) = both-true (same_tree f f) (same_tree a a) (tree-itself f) (tree-itself a)
tree-itself (const c) = both-true (c.decl == c.decl) (same_flag c.maker c.maker) (eq-eqb c.decl c.decl refl) (flag-itself c.maker)
tree-itself (proj r i t) =
    both-true
    ((r.0 == r.0) && (i == i))
    (same_tree t t)
    (both-true (r.0 == r.0) (i == i) (eq-eqb r.0 r.0 refl) (eq-eqb i i refl))
    (tree-itself t)
tree-itself (hole h) = eq-eqb h h refl

pub all-same : (ts us : List Tree) → same_trees ts us ≡ true → ts ≡ us
all-same [] [] h = refl
all-same (t ∷ ts) (u ∷ us) h =
    let p = both (same_tree t u) (same_trees ts us) h in
    λ i. trees-same t u p.0 i ∷ all-same ts us p.1 i
all-same ts us h = absurd (true≢false (sym h))

pub all-themselves : (ts : List Tree) → same_trees ts ts ≡ true
all-themselves [] = refl
all-themselves (t ∷ ts) = both-true (same_tree t t) (same_trees ts ts) (tree-itself t) (all-themselves ts)
