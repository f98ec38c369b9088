-- The holes of a command. Values are kept put into one another: a hole that stands in a value has none.
use Rattle.std.specs.Prelude.{ℕ, ◌+◌, ◌-◌, cond, nat_lt, nat_le, ◌==◌, List, map, set, Option, None, Some, option_map, slice_get}
use Rattle.hb_tree.specs.Tree.{Tree, sort, rel, pi, lam, app, const, proj, hole, lift}

-- a hole: how many variables its value may have, and the value, once it has one
pub record Place : Type 0 where
  pub depth : ℕ
  pub value : Option Tree

-- a new hole
abbrev pub blank : ℕ → Place
blank d = record { depth = d; value = None }

-- what stands for hole h in a term of depth n: the value, lifted from the depth d
abbrev pub value_or : ℕ → ℕ → ℕ → Option Tree → Tree
value_or h n d None = hole h
value_or h n d (Some v) = lift v (n - d) 0

abbrev pub stands_for : ℕ → ℕ → Option Place → Tree
stands_for h n None = hole h
stands_for h n (Some p) = value_or h n p.depth p.value

-- a term of depth n with the values of its holes put in
abbrev pub filled : List Place → ℕ → Tree → Tree
filled H n (sort s) = sort s
filled H n (rel v) = rel v
filled H n (pi a b) = pi (filled H n a) (filled H (n + 1) b)
filled H n (lam a b) = lam (filled H n a) (filled H (n + 1) b)
filled H n (app f a) = app (filled H n f) (filled H n a)
filled H n (const c) = const c
filled H n (proj r i t) = proj r i (filled H n t)
filled H n (hole h) = stands_for h n (slice_get H h)

-- hole i gets the value v; it is put in for hole i in the other values too
abbrev pub written : List Place → ℕ → Tree → Option Place → List Place
written H i v None = H
written H i v (Some p) = set H i (record { depth = p.depth; value = Some v })

abbrev pub refilled : List Place → Place → Place
refilled H p = record { depth = p.depth; value = option_map (filled H p.depth) p.value }

abbrev pub given : List Place → ℕ → Tree → List Place
given H i v = let G : List Place = written H i v (slice_get H i) in map (refilled G) G

-- how deep a hole is
abbrev pub depth_in : Option Place → ℕ
depth_in None = 0
depth_in (Some p) = p.depth

-- a variable without the c that stand just outside the innermost k; none where it is one of them
abbrev pub lowered_at : ℕ → ℕ → ℕ → Option Tree
lowered_at k c v = cond (nat_lt v k) (Some (rel v)) (cond (nat_lt v (k + c)) None (Some (rel (v - c))))

-- two parts that both are there
abbrev pub both : (Tree → Tree → Tree) → Option Tree → Option Tree → Option Tree
both make None q = None
both make (Some t) None = None
both make (Some t) (Some u) = Some (make t u)

-- hole h may stand in the value of hole i of depth d
abbrev pub may_stand : ℕ → ℕ → ℕ → Option Place → Option Tree
may_stand i d h None = None
may_stand i d h (Some p) = cond (h == i) None (cond (nat_le p.depth d) (Some (hole h)) None)

-- The value that t would be for hole i of depth d. It stands in a term c binders deeper, and is seen k binders
-- inside of t. None where it has hole i, a variable beyond the depth, or a hole that is deeper.
abbrev pub as_value : List Place → ℕ → ℕ → ℕ → ℕ → Tree → Option Tree
as_value H i d c k (sort s) = Some (sort s)
as_value H i d c k (rel v) = lowered_at k c v
as_value H i d c k (pi a b) = both pi (as_value H i d c k a) (as_value H i d c (k + 1) b)
as_value H i d c k (lam a b) = both lam (as_value H i d c k a) (as_value H i d c (k + 1) b)
as_value H i d c k (app f a) = both app (as_value H i d c k f) (as_value H i d c k a)
as_value H i d c k (const b) = Some (const b)
as_value H i d c k (proj r j t) = option_map (proj r j) (as_value H i d c k t)
as_value H i d c k (hole h) = may_stand i d h (slice_get H h)

-- the value that a term of depth n would be for hole i
abbrev pub value_for : List Place → ℕ → ℕ → Tree → Option Tree
value_for H n i t = let d : ℕ = depth_in (slice_get H i) in as_value H i d (n - d) 0 t
