-- What the fields keep.
use Rattle.std.specs.Prelude.{◌≤◌, length}
use Rattle.hb_order.specs.Allowed.{AllAllowed}
use Rattle.hb_joins.specs.Lists.{AreHeld}
use Rattle.hb_joins.specs.Table.{IsTable}
use Rattle.hb_joins.specs.declared.joins.Joins.TheInside.{Inside}

pub record IsKept (j : Inside) : Type 0 where
  pub few : length j.sets.items ≤ 1024
  pub allowed : AllAllowed j.sets.items
  pub table : IsTable j.sets.items j.rows.items
  pub holders : AreHeld j.sets.items j.holders
