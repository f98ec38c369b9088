-- What holds of the ends of the factories' sections.
use Rattle.std.specs.Prelude.{◌≡◌, ◌<◌, List, [], ◌∷◌, false}
use Rattle.hb_hier.specs.Hierarchy.{MOST, Ended, ended}

-- each section was ended once
abbrev pub AreDistinct : List Ended → Type 0
AreDistinct [] = Unit {0}
AreDistinct (e ∷ es) = (e.factory.0 < MOST) × (ended es e.factory.0 ≡ false) × AreDistinct es
