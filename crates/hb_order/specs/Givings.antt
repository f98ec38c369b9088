-- What was given to one carrier, and under which conditions.
use Rattle.std.specs.Prelude.{◌≡◌, ℕ, List, [], ◌∷◌, length, Option, None, Some, slice_index_or, if◌then◌else◌}
use Rattle.std.specs.Option.{option_map}
use Rattle.hb_sets.specs.Set.{Set, contains, empty, union}
use Rattle.hb_order.specs.declared.ids.StructId.{StructId}

-- one instance at a carrier: what it asks of each argument of the carrier, a structure or nothing, and
-- the mixins that it gives
pub record Giving : Type 0 where
  pub binders : List (Option StructId)
  pub gives : Set

-- the mixins that the carrier has
abbrev pub given : List Giving → Set
given [] = empty
given (g ∷ gs) = union g.gives (given gs)

-- the binders of the first giving that gave m
abbrev pub condition : List Giving → ℕ → List (Option StructId)
condition [] m = []
condition (g ∷ gs) m = if contains g.gives m then g.binders else condition gs m

-- how many binders the givings have
abbrev pub width : List Giving → ℕ
width [] = 0
width (g ∷ gs) = length g.binders

-- the structure that a list of binders asks at place i
abbrev pub binder : List (Option StructId) → ℕ → Option ℕ
binder binders i = option_map (λ s. s.0) (slice_index_or binders i None)

-- where m was given, structure t was asked at place i
abbrev pub Asks : List Giving → ℕ → ℕ → ℕ → Type 0
Asks gs m i t = binder (condition gs m) i ≡ Some t
