-- Terms closed over the context of a section.
use Rattle.std.specs.Prelude.{◌≡◌, List, [], ◌∷◌}
use Rattle.hb_tree.specs.Tree.{Tree, pi, lam}

-- the product over the types, the first outermost
abbrev pub closed_type : List Tree → Tree → Tree
closed_type [] t = t
closed_type (a ∷ G) t = pi a (closed_type G t)

-- the function over the types, the first outermost
abbrev pub closed_body : List Tree → Tree → Tree
closed_body [] t = t
closed_body (a ∷ G) t = lam a (closed_body G t)

-- the type is a product, and the body a function, over exactly the types
abbrev pub IsClosedOver : List Tree → Tree → Tree → Type 0
IsClosedOver [] t u = Unit {0}
IsClosedOver (a ∷ G) (pi b t) (lam c u) = (a ≡ b) × (a ≡ c) × IsClosedOver G t u
IsClosedOver (a ∷ G) t u = ⊥
