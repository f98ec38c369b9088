-- What is answered: the names of least lists, or that there is too much to try.
use Rattle.std.specs.Prelude.{◌≡◌, ◌<◌, ◌≤◌, Bool, ◌&&◌, not, List, length, map, count_by, All, Some}
use Rattle.std.specs.Global.{Vec}
use Rattle.hb_base.specs.declared.count.Count.TheVariants.{Factories}
use Rattle.hb_base.specs.declared.name_id.NameId.{NameId}
use Rattle.hb_sets.specs.Set.{Set, is_subset}
use Rattle.hb_hier.specs.declared.known.Known.{Known}
use Rattle.hb_hier.specs.Hierarchy.{Hierarchy, name_of, provided}
use Rattle.hb_howto.specs.declared.error.HowtoRefused.{HowtoRefused}
use Rattle.hb_howto.specs.declared.error.HowtoRefused.TheVariants.{TooMany, NoMemory}
use Rattle.hb_howto.specs.Filling.{is_usable, IsLeast}

-- the names of one to three mixins and factories, which are a least list that fills
pub record IsWay (h : Hierarchy) (wanted given : Set) (names : List NameId) : Type 0 where
  pub list : List Known
  pub some : 0 < length list
  pub few : length list ≤ 3
  pub least : IsLeast h wanted given list
  pub names_are : map (name_of h) list ≡ map Some names

-- so are those of each list
abbrev pub AreWays : Hierarchy → Set → Set → List (Vec NameId) → Type 0
AreWays h wanted given lists = All (λ names. IsWay h wanted given names.items) lists

-- it may stand in a list, and provides what isn't given
abbrev pub brings : Hierarchy → Set → Known → Bool
brings h given k = is_usable h k && not (is_subset (provided h k) given)

-- why nothing is answered: more than 512 mixins and ended factories provide what isn't given
abbrev pub HowtoRefusal : Hierarchy → Set → HowtoRefused → Type 0
HowtoRefusal h given (TooMany count) = (count ≡ Factories) × (512 < count_by (brings h given) h.order)
HowtoRefusal h given NoMemory = Unit {0}
