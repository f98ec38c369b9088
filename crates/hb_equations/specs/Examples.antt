-- Small equations worked by hand.
use Rattle.std.specs.Prelude.{◌≡◌, ℕ, false, [], ◌∷◌, None, Some}
use Rattle.hb_tree.specs.Tree.{Tree, rel, app, const, hole}
use Rattle.hb_tree.specs.declared.leaves.ConstId.{ConstId}
use Rattle.hb_calculus.specs.Declarations.{an_axiom, a_definition}
use Rattle.hb_tables.specs.Maps.{Maps, none}
use Rattle.hb_holes.specs.Holes.{blank, given}
use Rattle.hb_equations.specs.declared.relation.Relation.TheVariants.{Equal, Below}
use Rattle.hb_equations.specs.Forms.{goal, becomes, shares, ends, is_stuck, hole_value, joined, form_act}

abbrev at : ℕ → ConstId
at n = record { decl = n; maker = false }

abbrev N : Tree
N = const (at 0)

abbrev f : Tree → Tree
f x = app (const (at 1)) x

-- `?0` against N: the hole gets N
abbrev pub HoleGets : Type 0
HoleGets = hole_value (blank 0 ∷ []) 0 (hole 0) N ≡ Some (record { at = 0; value = N })

-- `?0` against `f ?0`: it stands in the other side
abbrev pub HoleStandsInside : Type 0
HoleStandsInside = hole_value (blank 0 ∷ []) 0 (hole 0) (f (hole 0)) ≡ None

-- of two holes the deeper gets the value
abbrev pub DeeperGets : Type 0
DeeperGets = hole_value (blank 0 ∷ blank 1 ∷ []) 1 (hole 0) (hole 1) ≡ Some (record { at = 1; value = hole 0 })

-- a variable under the hole's depth falls by what is cut off, the others are out of scope
abbrev pub VariableFalls : Type 0
VariableFalls = hole_value (blank 1 ∷ []) 3 (hole 0) (f (rel 2)) ≡ Some (record { at = 0; value = f (rel 0) })

abbrev pub VariableIsOut : Type 0
VariableIsOut = hole_value (blank 1 ∷ []) 3 (hole 0) (f (rel 1)) ≡ None

-- a value is put into the others, lifted to their depth
abbrev pub GivenLifts : Type 0
GivenLifts =
    given (blank 1 ∷ record { depth = 2; value = Some (f (hole 0)) } ∷ []) 0 (rel 0)
    ≡ record { depth = 1; value = Some (rel 0) } ∷ record { depth = 2; value = Some (f (rel 1)) } ∷ []

-- two structures with the join 2: a new hole of the smaller depth
abbrev coercions : Maps
coercions = record none {
  coercions = ((record { 0 = 2 }, record { 0 = 0 }), at 7) ∷ ((record { 0 = 2 }, record { 0 = 1 }), at 8) ∷ [];
}

abbrev pub JoinShares : Type 0
JoinShares =
    joined coercions (ends (is_stuck 1 N N)) (blank 0 ∷ blank 1 ∷ []) 1 (record { at = 0; structure = 0 }) (record { at = 1; structure = 1 }) 2
    ≡ shares 0 (at 7) 1 (at 8) 0

-- an heir below is the join itself: the shallower hole can't hold the deeper
abbrev pub HeirIsStuck : Type 0
HeirIsStuck =
    joined coercions (ends (is_stuck 1 N N)) (blank 0 ∷ blank 1 ∷ []) 1 (record { at = 0; structure = 0 }) (record { at = 1; structure = 2 }) 2
    ≡ ends (is_stuck 1 N N)

-- the later declared constant unfolds
abbrev pub LaterUnfolds : Type 0
LaterUnfolds =
    form_act (an_axiom 0 N ∷ a_definition 1 N N ∷ a_definition 2 N (f N) ∷ []) 0 Below (f (hole 0)) (const (at 2))
    ≡ becomes (goal 0 Below (f (hole 0)) (f N) ∷ [])

-- `F ?0` against N
abbrev pub StaysStuck : Type 0
StaysStuck = form_act (an_axiom 0 N ∷ an_axiom 1 N ∷ []) 0 Equal (f (hole 0)) N ≡ ends (is_stuck 0 (f (hole 0)) N)
