-- What the fields of the tables keep: the number of pairs of each is a u32.
use Rattle.std.specs.Prelude.{◌≡◌, ℕ, ◌<◌, ◌^◌, length}
use Rattle.hb_tables.specs.declared.tables.Tables.TheInside.{Inside}

pub record IsKept (t : Inside) : Type 0 where
  pub structures : length t.structures.entries < 2 ^ 32
  pub coercions : length t.coercions.entries < 2 ^ 32
  pub entries : length t.entries.entries < 2 ^ 32
  pub mixins : length t.mixins.entries < 2 ^ 32
  pub operations : length t.operations.entries < 2 ^ 32
  pub builders : length t.builders.entries < 2 ^ 32
  pub alike : length t.packs.entries ≡ length t.structures.entries
