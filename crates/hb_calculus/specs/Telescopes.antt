-- Telescopes, and the types that declarations give to constants, makers and projections (Rocq manual,
-- "Inductive types", "Primitive projections").
use Rattle.std.specs.Prelude.{ℕ, zero, suc, ◌+◌, true, false, cond, List, [], ◌∷◌, ◌++◌, length, Option, Some, None}
use Rattle.hb_tree.specs.Tree.{Tree, sort, rel, pi, const, proj, subst_at, apply}
use Rattle.hb_tree.specs.declared.leaves.Sort.TheVariants.{Level}
use Rattle.hb_tree.specs.declared.leaves.ConstId.{ConstId}
use Rattle.hb_tree.specs.declared.leaves.RecId.{RecId}
use Rattle.hb_calculus.specs.Declarations.{Decl, an_axiom, a_definition, a_record, Record, field_types}

-- the product over the types, each under those before it
abbrev pub products : List Tree → Tree → Tree
products [] b = b
products (a ∷ rest) b = pi a (products rest b)

-- the n variables that stand just outside the innermost m, the outermost first
abbrev pub variables : ℕ → ℕ → List Tree
variables zero m = []
variables (suc n) m = rel (n + m) ∷ variables n m

-- the type former of the record declared at the place r, and its constructor
abbrev pub former : ℕ → Tree
former r = const (record { decl = r; maker = false })

abbrev pub maker : ℕ → Tree
maker r = const (record { decl = r; maker = true })

-- the declared type of a record's former, and that of its maker
abbrev pub former_type : Record → Tree
former_type R = products R.params (sort (Level R.level))

abbrev pub maker_type : ℕ → Record → Tree
maker_type r R = products (R.params ++ R.fields) (apply (former r) (variables (length R.params) (length R.fields)))

-- the declared type of a constant
abbrev pub type_in : Option Decl → ConstId → Option Tree
type_in (Some (an_axiom n t)) c = cond c.maker None (Some t)
type_in (Some (a_definition n t b)) c = cond c.maker None (Some t)
type_in (Some (a_record n m ps k fs)) c =
    let R : Record = record { params = ps; level = k; fields = field_types fs } in
    Some (cond c.maker (maker_type c.decl R) (former_type R))
type_in None c = None

-- the projections of t to n fields from field i on
abbrev pub projections : RecId → ℕ → ℕ → Tree → List Tree
projections r i zero t = []
projections r i (suc n) t = proj r i t ∷ projections r (i + 1) n t

-- the values put in for the innermost variables of t, the outermost first
abbrev pub filled : Tree → List Tree → Tree
filled t [] = t
filled t (v ∷ rest) = filled (subst_at t v (length rest)) rest

-- the type of field i of t, whose declared type is T: the parameters and t's earlier projections put in
abbrev pub projection_type : RecId → (T : Tree) → (qs : List Tree) → (i : ℕ) → (t : Tree) → Tree
projection_type r T qs i t = filled T (qs ++ projections r 0 i t)
