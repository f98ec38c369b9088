-- Values without holes.
use Rattle.std.specs.Prelude.{◌≡◌, Bool, false, List, [], ◌∷◌, Option, None, Some}
use Rattle.hb_tree.specs.Tree.{Tree, has_hole}
use Rattle.hb_holes.specs.Holes.{Place}

abbrev pub in_value : Option Tree → Bool
in_value None = false
in_value (Some t) = has_hole t

-- the place has a value in which a hole stands
abbrev pub is_unsettled : Place → Bool
is_unsettled p = in_value p.value

-- no value has a hole
abbrev pub AreSettled : List Place → Type 0
AreSettled [] = Unit {0}
AreSettled (p ∷ ps) = (is_unsettled p ≡ false) × AreSettled ps
