-- Tables that grew.
use Rattle.std.specs.Prelude.{◌≡◌, List, ◌++◌, length}
use Rattle.hb_order.specs.declared.ids.StructId.{StructId}
use Rattle.hb_order.specs.declared.ids.MixinId.{MixinId}
use Rattle.hb_order.specs.declared.ids.FactoryId.{FactoryId}
use Rattle.hb_tree.specs.declared.leaves.ConstId.{ConstId}
use Rattle.hb_tree.specs.declared.leaves.RecId.{RecId}
use Rattle.hb_tables.specs.Maps.{Maps}

-- each structure has a package record
pub record IsWhole (t : Maps) : Type 0 where
  pub packs : length t.packs ≡ length t.structures

-- the second are the first with more after each list
pub record Grew (old new : Maps) : Type 0 where
  pub structures : List (StructId × (RecId × RecId))
  pub packs : List (RecId × StructId)
  pub coercions : List ((StructId × StructId) × ConstId)
  pub entries : List ((StructId × ConstId) × ConstId)
  pub mixins : List ((ConstId × MixinId) × ConstId)
  pub operations : List (ConstId × StructId)
  pub builders : List ((FactoryId × MixinId) × ConstId)
  pub structures_are : new.structures ≡ old.structures ++ structures
  pub packs_are : new.packs ≡ old.packs ++ packs
  pub coercions_are : new.coercions ≡ old.coercions ++ coercions
  pub entries_are : new.entries ≡ old.entries ++ entries
  pub mixins_are : new.mixins ≡ old.mixins ++ mixins
  pub operations_are : new.operations ≡ old.operations ++ operations
  pub builders_are : new.builders ≡ old.builders ++ builders
