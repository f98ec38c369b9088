-- What the fields of a hierarchy keep.
use Rattle.std.specs.Prelude.{◌≡◌, ◌≤◌, length}
use Rattle.hb_hier.specs.Hierarchy.{MOST, sets_of}
use Rattle.hb_hier.specs.Giving.{AllBindersBelow}
use Rattle.hb_hier.specs.Keeping.{AreDistinct}
use Rattle.hb_hier.specs.Undoing.{AllListed}
use Rattle.hb_hier.specs.declared.hier.Hier.TheInside.{Inside}

pub record IsKept (h : Inside) : Type 0 where
  pub few_mixins : length h.mixins.items ≤ MOST
  pub few_factories : length h.factories.items ≤ MOST
  pub few_structures : length h.structures.items ≤ MOST
  pub ended_once : AreDistinct h.endings.items
  pub joined : h.joins ≡ sets_of h.structures.items
  pub asked : AllBindersBelow (length h.structures.items) h.givings
  pub ordered : AllListed (length h.mixins.items) (length h.factories.items) (length h.structures.items) h.order.items
