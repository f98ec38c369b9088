-- Terms of the calculus with de Bruijn numbers: variables, lifting and substitution (Rocq manual, "Terms").
use Rattle.std.specs.Prelude.{ℕ, Bool, true, false, ◌+◌, ◌-◌, ◌==◌, nat_lt, cond, max, ◌||◌, List, [], ◌∷◌, ◌++◌}
use Rattle.hb_tree.specs.declared.leaves.Sort.{Sort}
use Rattle.hb_tree.specs.declared.leaves.ConstId.{ConstId}
use Rattle.hb_tree.specs.declared.leaves.RecId.{RecId}

-- a term: under `pi` and `lam` the second part has one more variable, number 0
pub data Tree : Type 0 where
  sort : (s : Sort) → Tree
  rel : (v : ℕ) → Tree
  pi : (a b : Tree) → Tree
  lam : (a b : Tree) → Tree
  app : (f a : Tree) → Tree
  const : (c : ConstId) → Tree
  proj : (r : RecId) → (i : ℕ) → (t : Tree) → Tree
  hole : (h : ℕ) → Tree

-- the term where n variables more stand just outside the innermost k
abbrev pub lift : Tree → ℕ → ℕ → Tree
lift (sort s) n k = sort s
lift (rel v) n k = rel (cond (nat_lt v k) v (v + n))
lift (pi a b) n k = pi (lift a n k) (lift b n (k + 1))
lift (lam a b) n k = lam (lift a n k) (lift b n (k + 1))
lift (app f a) n k = app (lift f n k) (lift a n k)
lift (const c) n k = const c
lift (proj r i t) n k = proj r i (lift t n k)
lift (hole h) n k = hole h

-- the term with a for variable k, lifted past the k innermost; the variables above k fall by one
abbrev pub subst_at : Tree → Tree → ℕ → Tree
subst_at (sort s) a k = sort s
subst_at (rel v) a k = cond (nat_lt v k) (rel v) (cond (v == k) (lift a k 0) (rel (v - 1)))
subst_at (pi t u) a k = pi (subst_at t a k) (subst_at u a (k + 1))
subst_at (lam t u) a k = lam (subst_at t a k) (subst_at u a (k + 1))
subst_at (app f t) a k = app (subst_at f a k) (subst_at t a k)
subst_at (const c) a k = const c
subst_at (proj r i t) a k = proj r i (subst_at t a k)
subst_at (hole h) a k = hole h

-- one more than the greatest variable that isn't bound inside, or 0 without one
abbrev pub loose : Tree → ℕ
loose (sort s) = 0
loose (rel v) = v + 1
loose (pi a b) = max (loose a) (loose b - 1)
loose (lam a b) = max (loose a) (loose b - 1)
loose (app f a) = max (loose f) (loose a)
loose (const c) = 0
loose (proj r i t) = loose t
loose (hole h) = 0

-- the number of nodes of the term as written out
abbrev pub nodes : Tree → ℕ
nodes (sort s) = 1
nodes (rel v) = 1
nodes (pi a b) = nodes a + nodes b + 1
nodes (lam a b) = nodes a + nodes b + 1
nodes (app f a) = nodes f + nodes a + 1
nodes (const c) = 1
nodes (proj r i t) = nodes t + 1
nodes (hole h) = 1

-- the number of nodes on the longest way down; a leaf has depth 1
abbrev pub depth : Tree → ℕ
depth (sort s) = 1
depth (rel v) = 1
depth (pi a b) = max (depth a) (depth b) + 1
depth (lam a b) = max (depth a) (depth b) + 1
depth (app f a) = max (depth f) (depth a) + 1
depth (const c) = 1
depth (proj r i t) = depth t + 1
depth (hole h) = 1

-- whether variable k stands in the term
abbrev pub occurs : Tree → ℕ → Bool
occurs (sort s) k = false
occurs (rel v) k = v == k
occurs (pi a b) k = occurs a k || occurs b (k + 1)
occurs (lam a b) k = occurs a k || occurs b (k + 1)
occurs (app f a) k = occurs f k || occurs a k
occurs (const c) k = false
occurs (proj r i t) k = occurs t k
occurs (hole h) k = false

-- whether a hole stands in the term
abbrev pub has_hole : Tree → Bool
has_hole (sort s) = false
has_hole (rel v) = false
has_hole (pi a b) = has_hole a || has_hole b
has_hole (lam a b) = has_hole a || has_hole b
has_hole (app f a) = has_hole f || has_hole a
has_hole (const c) = false
has_hole (proj r i t) = has_hole t
has_hole (hole h) = true

-- the head of an application, and its arguments in order
abbrev pub head_of : Tree → Tree
head_of (app f a) = head_of f
head_of t = t

abbrev pub args_of : Tree → List Tree
args_of (app f a) = args_of f ++ a ∷ []
args_of t = []

-- the function applied to the arguments in order
abbrev pub apply : Tree → List Tree → Tree
apply f [] = f
apply f (a ∷ rest) = apply (app f a) rest
