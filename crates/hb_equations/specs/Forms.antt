-- What an equation between two terms in head form becomes, as functions of the two terms.
use Rattle.std.specs.Prelude.{ℕ, ◌+◌, Bool, true, false, cond, nat_lt, nat_le, ◌==◌, ◌&&◌, ◌||◌, min, List, [], ◌∷◌, length, drop, Option, None, Some, option_map, slice_get}
use Rattle.std.specs.Option.{option_or}
use Rattle.hb_base.specs.declared.name_id.NameId.{NameId}
use Rattle.hb_order.specs.declared.ids.StructId.{StructId}
use Rattle.hb_tree.specs.Tree.{Tree, sort, rel, pi, lam, app, const, proj, hole, lift, head_of, args_of}
use Rattle.hb_tree.specs.declared.leaves.Sort.{Sort}
use Rattle.hb_tree.specs.declared.leaves.Sort.TheVariants.{Prop, Level}
use Rattle.hb_tree.specs.declared.leaves.ConstId.{ConstId}
use Rattle.hb_tree.specs.declared.leaves.RecId.{RecId}
use Rattle.hb_calculus.specs.Declarations.{Decl, Record, body_in, record_in}
use Rattle.hb_calculus.specs.Telescopes.{projections}
use Rattle.hb_calculus.specs.Contraction.{beta_of, field_of, same_sort, same_tree}
use Rattle.hb_tables.specs.Maps.{Maps, structure_of, coercion_of}
use Rattle.hb_holes.specs.Holes.{Place, value_for, depth_in}
use Rattle.hb_keys.specs.Setting.{Setting}
use Rattle.hb_keys.specs.Keys.{struct_id}
use Rattle.hb_equations.specs.declared.relation.Relation.{Relation}
use Rattle.hb_equations.specs.declared.relation.Relation.TheVariants.{Equal, Below}

-- an equation between terms of depth n
pub data Goal : Type 0 where
  goal : (n : ℕ) (r : Relation) (a b : Tree) → Goal

-- why a run ends without a solution; terms are kept with their depth
pub data Cause : Type 0 where
  is_stuck : (n : ℕ) (a b : Tree) → Cause
  no_instance : (wanted : NameId) (n : ℕ) (carrier : Tree) → Cause
  is_spent : (n : ℕ) (t : Tree) → Cause
  no_moves : Cause
  no_memory : Cause

-- What an equation does: it becomes others; hole i gets v; or hole i gets `c j` and hole k gets `d j` for a new hole
-- j of this depth; or it ends the run.
pub data Act : Type 0 where
  becomes : List Goal → Act
  gives : (i : ℕ) (v : Tree) → Act
  shares : (i : ℕ) (c : ConstId) (k : ℕ) (d : ConstId) (depth : ℕ) → Act
  ends : Cause → Act

-- the step of an equation's side at its head: beta, or a projection of a maker
abbrev pub weak : List Decl → Tree → Option Tree
weak E (app f a) = option_or (beta_of f a) (option_map (λ x. app x a) (weak E f))
weak E (proj r i t) =
    option_or (field_of (record_in (slice_get E r.0)) r.0 i (head_of t) (args_of t)) (option_map (λ x. proj r i x) (weak E t))
weak E t = None

-- a hole and the value that it gets
pub record Value : Type 0 where
  pub at : ℕ
  pub value : Tree

abbrev value_of : ℕ → Option Tree → Option Value
value_of i o = option_map (λ v. record { at = i; value = v }) o

-- the first of two holes is deeper, or as deep and born later
abbrev pub comes_first : List Place → ℕ → ℕ → Bool
comes_first H i j =
    let d : ℕ = depth_in (slice_get H i) in
    let e : ℕ = depth_in (slice_get H j) in
    nat_lt e d || ((d == e) && nat_lt j i)

-- One side is a hole, and the other fits: the hole gets it. Of two holes the deeper, else the later born.
abbrev pub hole_value : List Place → ℕ → Tree → Tree → Option Value
hole_value H n (hole i) (hole j) =
    cond (comes_first H i j) (value_of i (value_for H n i (hole j))) (value_of j (value_for H n j (hole i)))
hole_value H n (hole i) b = value_of i (value_for H n i b)
hole_value H n a (hole j) = value_of j (value_for H n j a)
hole_value H n a b = None

-- `x.(S.sort)` of a hole x, with the number of the structure S, which is declared
pub record SortOf : Type 0 where
  pub at : ℕ
  pub structure : ℕ

abbrev pub sort_in : ℕ → Option StructId → ℕ → Tree → Option SortOf
sort_in declared None i t = None
sort_in declared (Some S) i (hole x) = cond ((i == 0) && nat_lt S.0 declared) (Some (record { at = x; structure = S.0 })) None
sort_in declared (Some S) i t = None

abbrev pub sort_of_hole : Setting → Tree → Option SortOf
sort_of_hole S (proj r i t) = sort_in (length S.hier.structures) (structure_of S.tables r) i t
sort_of_hole S t = None

-- the coercion's constant from structure s to structure t
abbrev pub coerced : Maps → ℕ → ℕ → Option ConstId
coerced T s t = coercion_of T (struct_id s) (struct_id t)

-- hole i gets the value, where it fits; else the equation is stuck
abbrev pub gives_or : Act → Option Value → Act
gives_or stuck None = stuck
gives_or stuck (Some v) = gives v.at v.value

abbrev pub given_coerced : Act → List Place → ℕ → ℕ → Option ConstId → ℕ → Act
given_coerced stuck H n i None j = stuck
given_coerced stuck H n i (Some c) j = gives_or stuck (value_of i (value_for H n i (app (const c) (hole j))))

abbrev pub shared : Act → List Place → ℕ → Option ConstId → ℕ → Option ConstId → Act
shared stuck H i None k d = stuck
shared stuck H i (Some c) k None = stuck
shared stuck H i (Some c) k (Some d) = shares i c k d (min (depth_in (slice_get H i)) (depth_in (slice_get H k)))

-- Two sorts of holes, x of structure A and y of structure B, where J is the join of A and B.
abbrev pub joined : Maps → Act → List Place → ℕ → SortOf → SortOf → ℕ → Act
joined T stuck H n x y J =
    cond (J == x.structure) (given_coerced stuck H n y.at (coerced T x.structure y.structure) x.at)
    (cond (J == y.structure) (given_coerced stuck H n x.at (coerced T y.structure x.structure) y.at)
    (shared stuck H x.at (coerced T J x.structure) y.at (coerced T J y.structure)))

-- the value for hole x, where the tables have one and it fits
abbrev pub inferred : Act → List Place → ℕ → ℕ → Option Tree → Act
inferred stuck H n x None = stuck
inferred stuck H n x (Some v) = gives_or stuck (value_of x (value_for H n x v))

-- sorts that are the same, or in order
abbrev pub sorts_fit : Relation → Sort → Sort → Bool
sorts_fit Equal s s' = same_sort s s'
sorts_fit Below Prop s = true
sorts_fit Below (Level j) Prop = false
sorts_fit Below (Level j) (Level k) = nat_le j k

-- equations of the parts, from left to right; none where there aren't as many
abbrev pub pairs : ℕ → List Tree → List Tree → Option (List Goal)
pairs n [] [] = Some []
pairs n [] (y ∷ ys) = None
pairs n (x ∷ xs) [] = None
pairs n (x ∷ xs) (y ∷ ys) = option_map (λ q. goal n Equal x y ∷ q) (pairs n xs ys)

-- the same constant or variable
abbrev pub same_head : Tree → Tree → Bool
same_head (const c) (const d) = same_tree (const c) (const d)
same_head (rel v) (rel w) = v == w
same_head t u = false

abbrev pub spines : ℕ → Tree → Tree → Option (List Goal)
spines n a b = cond (same_head (head_of a) (head_of b)) (pairs n (args_of a) (args_of b)) None

-- two terms of the same form
abbrev pub parts : ℕ → Relation → Tree → Tree → Option (List Goal)
parts n r (sort s) (sort s') = cond (sorts_fit r s s') (Some []) None
parts n r (pi a b) (pi a' b') = Some (goal n Equal a a' ∷ goal (n + 1) r b b' ∷ [])
parts n r (lam a b) (lam a' b') = Some (goal n Equal a a' ∷ goal (n + 1) Equal b b' ∷ [])
parts n r (proj p i t) (proj q j u) = cond ((p.0 == q.0) && (i == j)) (Some (goal n Equal t u ∷ [])) None
parts n r a b = spines n a b

-- the constant with a body at the head, through functions and projected terms: its place, and the term with the body
pub record Unfolded : Type 0 where
  pub declared : ℕ
  pub term : Tree

abbrev unfolded_const : ConstId → Option Tree → Option Unfolded
unfolded_const c o = option_map (λ b. record { declared = c.decl; term = b }) o

abbrev around : (Tree → Tree) → Unfolded → Unfolded
around make u = record { declared = u.declared; term = make u.term }

abbrev pub unfolded : List Decl → Tree → Option Unfolded
unfolded E (const c) = unfolded_const c (cond c.maker None (body_in (slice_get E c.decl)))
unfolded E (app f a) = option_map (around (λ x. app x a)) (unfolded E f)
unfolded E (proj r i t) = option_map (around (proj r i)) (unfolded E t)
unfolded E t = None

-- the side whose constant was declared later unfolds, or both
abbrev pub unfolds : ℕ → Relation → Tree → Tree → Option Unfolded → Option Unfolded → Option (List Goal)
unfolds n r a b None None = None
unfolds n r a b (Some u) None = Some (goal n r u.term b ∷ [])
unfolds n r a b None (Some v) = Some (goal n r a v.term ∷ [])
unfolds n r a b (Some u) (Some v) =
    cond (u.declared == v.declared) (Some (goal n r u.term v.term ∷ []))
    (cond (nat_lt v.declared u.declared) (Some (goal n r u.term b ∷ [])) (Some (goal n r a v.term ∷ [])))

-- a side is a function: the other is applied to the new variable
abbrev pub opened : ℕ → Tree → Tree → Option (List Goal)
opened n (lam a b) u = Some (goal (n + 1) Equal b (app (lift u 1 0) (rel 0)) ∷ [])
opened n t (lam a b) = Some (goal (n + 1) Equal (app (lift t 1 0) (rel 0)) b ∷ [])
opened n t u = None

-- the fields of a full application of a maker with fields
pub record Made : Type 0 where
  pub made_by : RecId
  pub fields : List Tree

abbrev pub made_of : Option Record → ℕ → List Tree → Option Made
made_of None r args = None
made_of (Some R) r args =
    cond (nat_lt 0 (length R.fields) && (length args == length R.params + length R.fields))
    (Some (record { made_by = record { 0 = r }; fields = drop (length R.params) args }))
    None

abbrev pub made_at : List Decl → Tree → List Tree → Option Made
made_at E (const c) args = cond c.maker (made_of (record_in (slice_get E c.decl)) c.decl args) None
made_at E t args = None

abbrev pub made : List Decl → Tree → Option Made
made E t = made_at E (head_of t) (args_of t)

abbrev pub fields_left : ℕ → Tree → Made → Option (List Goal)
fields_left n b m = pairs n m.fields (projections m.made_by 0 (length m.fields) b)

abbrev pub fields_right : ℕ → Tree → Made → Option (List Goal)
fields_right n a m = pairs n (projections m.made_by 0 (length m.fields) a) m.fields

abbrev pub fielded : ℕ → Tree → Tree → Option Made → Option Made → Option (List Goal)
fielded n a b (Some m) o = fields_left n b m
fielded n a b None (Some m) = fields_right n a m
fielded n a b None None = None

-- two sorts out of order are stuck, whatever follows
abbrev pub becomes_or : Act → Option (List Goal) → Act
becomes_or stuck None = stuck
becomes_or stuck (Some q) = becomes q

-- the first rule that fits: the parts of the same form, unfolding, functions and makers; else the equation is stuck
abbrev pub form_act : List Decl → ℕ → Relation → Tree → Tree → Act
form_act E n r a b =
    becomes_or (ends (is_stuck n a b))
    (option_or (parts n r a b)
    (option_or (unfolds n r a b (unfolded E a) (unfolded E b))
    (option_or (opened n a b) (fielded n a b (made E a) (made E b)))))
