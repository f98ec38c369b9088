-- Contractions as functions of the term, and the leftmost outermost place of one.
use Rattle.std.specs.Prelude.{ℕ, zero, ◌+◌, Bool, true, false, cond, ◌&&◌, not, ◌==◌, List, [], ◌∷◌, length, drop, Option, Some, None, option_map, option_and_then, slice_get}
use Rattle.std.specs.Option.{option_or}
use Rattle.hb_tree.specs.Tree.{Tree, sort, rel, pi, lam, app, const, proj, hole, subst_at, occurs, head_of, args_of}
use Rattle.hb_tree.specs.declared.leaves.Sort.{Sort}
use Rattle.hb_tree.specs.declared.leaves.Sort.TheVariants.{Prop, Level}
use Rattle.hb_calculus.specs.Declarations.{Decl, Record, body_in, record_in}
use Rattle.hb_calculus.specs.Telescopes.{projections}

-- the result of beta
abbrev pub beta_of : Tree → Tree → Option Tree
beta_of (lam a b) v = Some (subst_at b v 0)
beta_of f v = None

-- the term is the maker of the record at the place r
abbrev pub is_maker : ℕ → Tree → Bool
is_maker r (const c) = c.maker && (c.decl == r)
is_maker r t = false

-- field i of a term with this head and these arguments, if it is the maker of the record R at the
-- place r with exactly all its parameters and fields
abbrev pub field_of : Option Record → ℕ → ℕ → (head : Tree) → (args : List Tree) → Option Tree
field_of None r i head args = None
field_of (Some R) r i head args =
    cond
    (is_maker r head && (length args == length R.params + length R.fields))
    (slice_get (drop (length R.params) args) i)
    None

-- what beta, delta or projection makes of the term itself
abbrev pub contract : List Decl → Tree → Option Tree
contract E (app f a) = beta_of f a
contract E (const c) = cond c.maker None (body_in (slice_get E c.decl))
contract E (proj r i t) = field_of (record_in (slice_get E r.0)) r.0 i (head_of t) (args_of t)
contract E t = None

-- the rule at its leftmost outermost place: the term itself, then the function before the argument,
-- the domain before the body, and the projected term
abbrev pub leftmost : (Tree → Option Tree) → Tree → Option Tree
leftmost rule (sort s) = rule (sort s)
leftmost rule (rel v) = rule (rel v)
leftmost rule (pi a b) =
    option_or (rule (pi a b)) (option_or (option_map (λ x. pi x b) (leftmost rule a)) (option_map (λ x. pi a x) (leftmost rule b)))
leftmost rule (lam a b) =
    option_or (rule (lam a b)) (option_or (option_map (λ x. lam x b) (leftmost rule a)) (option_map (λ x. lam a x) (leftmost rule b)))
leftmost rule (app f a) =
    option_or (rule (app f a)) (option_or (option_map (λ x. app x a) (leftmost rule f)) (option_map (λ x. app f x) (leftmost rule a)))
leftmost rule (const c) = rule (const c)
leftmost rule (proj r i t) = option_or (rule (proj r i t)) (option_map (λ x. proj r i x) (leftmost rule t))
leftmost rule (hole h) = rule (hole h)

-- the leftmost outermost step
abbrev pub next : List Decl → Tree → Option Tree
next E t = leftmost (contract E) t

-- the step at the head, which is reached through functions of applications and projected terms
abbrev pub head_step : List Decl → Tree → Option Tree
head_step E (app f a) = option_or (contract E (app f a)) (option_map (λ x. app x a) (head_step E f))
head_step E (proj r i t) = option_or (contract E (proj r i t)) (option_map (λ x. proj r i x) (head_step E t))
head_step E t = contract E t

-- whether two terms are the same
abbrev pub same_sort : Sort → Sort → Bool
same_sort Prop Prop = true
same_sort (Level j) (Level k) = j == k
same_sort s s' = false

abbrev pub same_flag : Bool → Bool → Bool
same_flag true x = x
same_flag false x = not x

abbrev pub same_tree : Tree → Tree → Bool
same_tree (sort s) (sort s') = same_sort s s'
same_tree (rel v) (rel w) = v == w
same_tree (pi a b) (pi a' b') = same_tree a a' && same_tree b b'
same_tree (lam a b) (lam a' b') = same_tree a a' && same_tree b b'
same_tree (app f a) (app f' a') = same_tree f f' && same_tree a a'
same_tree (const c) (const d) = (c.decl == d.decl) && same_flag c.maker d.maker
same_tree (proj r i t) (proj s j u) = (r.0 == s.0) && (i == j) && same_tree t u
same_tree (hole g) (hole h) = g == h
same_tree t u = false

abbrev pub same_trees : List Tree → List Tree → Bool
same_trees [] [] = true
same_trees (t ∷ ts) (u ∷ us) = same_tree t u && same_trees ts us
same_trees ts us = false

-- t of the body `t x` of a function, where x, its variable, doesn't stand in t
abbrev pub eta_of_body : Tree → Option Tree
eta_of_body (app t (rel zero)) = cond (occurs t 0) None (Some (subst_at t (sort Prop) 0))
eta_of_body b = None

-- t, where the arguments are as many as the parameters and then all projections of t
abbrev pub projected_of : List Tree → Option Tree
projected_of (proj r i t ∷ rest) = Some t
projected_of ts = None

abbrev pub eta_of_fields : Option Record → ℕ → List Tree → Option Tree
eta_of_fields None r args = None
eta_of_fields (Some R) r args =
    let fs : List Tree = drop (length R.params) args in
    option_and_then
    (λ t. cond ((length args == length R.params + length R.fields) && same_trees fs (projections (record { 0 = r }) 0 (length R.fields) t)) (Some t) None)
    (projected_of fs)

abbrev pub eta_of_made : List Decl → (head : Tree) → (args : List Tree) → Option Tree
eta_of_made E (const c) args = cond c.maker (eta_of_fields (record_in (slice_get E c.decl)) c.decl args) None
eta_of_made E t args = None

-- what eta of functions, or of a record with at least one field, makes of the term itself
abbrev pub eta_of : List Decl → Tree → Option Tree
eta_of E (lam a b) = eta_of_body b
eta_of E (app f a) = eta_of_made E (head_of (app f a)) (args_of (app f a))
eta_of E t = None

-- the leftmost outermost eta contraction
abbrev pub next_eta : List Decl → Tree → Option Tree
next_eta E t = leftmost (eta_of E) t
