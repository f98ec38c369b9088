-- Lists of mixins and factories that give a carrier what a structure has, and the least of them.
use Rattle.std.specs.Prelude.{◌≢◌, ◌<◌, Bool, true, false, IsTrue, List, [], ◌∷◌, length, All, Contains}
use Rattle.hb_sets.specs.Set.{Set, Inside, union}
use Rattle.hb_hier.specs.declared.known.Known.{Known}
use Rattle.hb_hier.specs.declared.known.Known.TheVariants.{Mixin, Factory, Structure}
use Rattle.hb_hier.specs.Hierarchy.{Hierarchy, IsDeclared, ended, required, provided}

-- it may stand in a list: a mixin, or a factory whose section was ended
abbrev pub is_usable : Hierarchy → Known → Bool
is_usable h (Mixin m) = true
is_usable h (Factory f) = ended h.endings f.0
is_usable h (Structure s) = false

abbrev pub IsUsable : Hierarchy → Known → Type 0
IsUsable h k = IsDeclared h k × IsTrue (is_usable h k)

-- no two are the same
abbrev pub AreDifferent : List Known → Type 0
AreDifferent [] = Unit {0}
AreDifferent (k ∷ ks) = All (λ l. k ≢ l) ks × AreDifferent ks

-- in their order, each has what it requires among what is held with what those before provide, and at
-- the end all that is wanted is there
abbrev pub Reaches : Hierarchy → Set → Set → List Known → Type 0
Reaches h wanted held [] = Inside wanted held
Reaches h wanted held (k ∷ ks) = Inside (required h k) held × Reaches h wanted (union held (provided h k)) ks

-- the list gives a carrier that was given this all that is wanted
pub record Fills (h : Hierarchy) (wanted given : Set) (list : List Known) : Type 0 where
  pub usable : All (IsUsable h) list
  pub different : AreDifferent list
  pub reaches : Reaches h wanted given list

-- each of the part is of the list, in any order, and there are fewer
pub record IsProperPart (part list : List Known) : Type 0 where
  pub each : All (Contains list) part
  pub fewer : length part < length list

-- the list fills, and no proper part of it does
pub record IsLeast (h : Hierarchy) (wanted given : Set) (list : List Known) : Type 0 where
  pub fills : Fills h wanted given list
  pub least : (part : List Known) → IsProperPart part list → ¬ (Fills h wanted given part)
