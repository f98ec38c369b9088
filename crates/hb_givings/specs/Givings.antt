-- The instances of a session in order, and those at one carrier.
use Rattle.std.specs.Prelude.{ℕ, Bool, false, ◌==◌, ◌&&◌, if◌then◌else◌, List, [], ◌∷◌, ◌++◌, length, fold, Option, None, Some}
use Rattle.std.specs.Bool.{beq}
use Rattle.std.specs.List.{list_any}
use Rattle.hb_sets.specs.Set.{empty}
use Rattle.hb_order.specs.Givings.{Giving}
use Rattle.hb_tree.specs.declared.leaves.ConstId.{ConstId}

-- an instance at a carrier
pub record Given : Type 0 where
  pub carrier : ConstId
  pub giving : Giving

-- in place of what isn't there
abbrev pub ungiven : Given
ungiven = record { carrier = record { decl = 0; maker = false }; giving = record { binders = []; gives = empty } }

-- two constants are the same
abbrev pub same_const : ConstId → ConstId → Bool
same_const a b = (a.decl == b.decl) && beq a.maker b.maker

-- the givings at one carrier, in order
abbrev pub givings_at : List Given → ConstId → List Giving
givings_at [] k = []
givings_at (g ∷ gs) k = if same_const g.carrier k then g.giving ∷ givings_at gs k else givings_at gs k

-- the carriers, in the order of their first givings
abbrev pub with_carrier : List ConstId → ConstId → List ConstId
with_carrier ks k = if list_any (λ other. same_const other k) ks then ks else ks ++ k ∷ []

abbrev pub carriers_of : List Given → List ConstId
carriers_of gs = fold (λ ks g. with_carrier ks g.carrier) [] gs

-- how many binders the givings at a carrier have; none where nothing was given
abbrev pub binder_count : List Giving → Option ℕ
binder_count [] = None
binder_count (g ∷ gs) = Some (length g.binders)
