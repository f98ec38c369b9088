-- Tables as finite maps, each a list of pairs with different keys, in the order of adding.
use Rattle.std.specs.Prelude.{ℕ, ◌==◌, ◌&&◌, Bool, true, false, not, List, [], ◌∷◌, ◌++◌, Option, length, take}
use Rattle.std.specs.Map.{lookup}
use Rattle.hb_order.specs.declared.ids.StructId.{StructId}
use Rattle.hb_order.specs.declared.ids.MixinId.{MixinId}
use Rattle.hb_order.specs.declared.ids.FactoryId.{FactoryId}
use Rattle.hb_tree.specs.declared.leaves.ConstId.{ConstId}
use Rattle.hb_tree.specs.declared.leaves.RecId.{RecId}
use Rattle.hb_tables.specs.declared.marks.TablesMark.{TablesMark}

-- two constants are the same
abbrev pub same_bool : Bool → Bool → Bool
same_bool true b = b
same_bool false b = not b

abbrev pub same_const : ConstId → ConstId → Bool
same_const a b = (a.decl == b.decl) && same_bool a.maker b.maker

-- the maps: of a structure its records, of a package record its structure, of two structures their
-- coercion, of a structure and a carrier the instance, of a carrier and a mixin its value, of an operation
-- its structure, of a factory and a mixin its builder
pub record Maps : Type 0 where
  pub structures : List (StructId × (RecId × RecId))
  pub packs : List (RecId × StructId)
  pub coercions : List ((StructId × StructId) × ConstId)
  pub entries : List ((StructId × ConstId) × ConstId)
  pub mixins : List ((ConstId × MixinId) × ConstId)
  pub operations : List (ConstId × StructId)
  pub builders : List ((FactoryId × MixinId) × ConstId)

-- the tables without pairs
abbrev pub none : Maps
none = record { structures = []; packs = []; coercions = []; entries = []; mixins = []; operations = []; builders = [] }

-- the class and the package record of a structure
abbrev pub records_of : Maps → StructId → Option (RecId × RecId)
records_of t s = lookup (λ k. k.0 == s.0) t.structures

-- the structure whose package record this is
abbrev pub structure_of : Maps → RecId → Option StructId
structure_of t pack = lookup (λ k. k.0 == pack.0) t.packs

-- the constant of the coercion from a to b
abbrev pub coercion_of : Maps → StructId → StructId → Option ConstId
coercion_of t a b = lookup (λ k. (k.0.0 == a.0) && (k.1.0 == b.0)) t.coercions

-- the constant of the instance of s at the carrier
abbrev pub entry_of : Maps → StructId → ConstId → Option ConstId
entry_of t s carrier = lookup (λ k. (k.0.0 == s.0) && same_const k.1 carrier) t.entries

-- the constant of m at the carrier
abbrev pub mixin_of : Maps → ConstId → MixinId → Option ConstId
mixin_of t carrier m = lookup (λ k. same_const k.0 carrier && (k.1.0 == m.0)) t.mixins

-- the structure of the operation
abbrev pub operation_of : Maps → ConstId → Option StructId
operation_of t c = lookup (λ k. same_const k c) t.operations

-- the constant that builds m for the factory
abbrev pub builder_of : Maps → FactoryId → MixinId → Option ConstId
builder_of t f m = lookup (λ k. (k.0.0 == f.0) && (k.1.0 == m.0)) t.builders

-- with the records of one more structure
abbrev pub with_structure : Maps → StructId → RecId → RecId → Maps
with_structure t s class pack = record t {
  structures = t.structures ++ (s, (class, pack)) ∷ [];
  packs = t.packs ++ (pack, s) ∷ [];
}

-- the lengths of the maps
abbrev pub mark_of : Maps → TablesMark
mark_of t = record {
  structures = length t.structures;
  coercions = length t.coercions;
  entries = length t.entries;
  mixins = length t.mixins;
  operations = length t.operations;
  builders = length t.builders;
}

-- so many pairs of each map as the mark says
abbrev pub cut : Maps → TablesMark → Maps
cut t mark = record {
  structures = take mark.structures t.structures;
  packs = take mark.structures t.packs;
  coercions = take mark.coercions t.coercions;
  entries = take mark.entries t.entries;
  mixins = take mark.mixins t.mixins;
  operations = take mark.operations t.operations;
  builders = take mark.builders t.builders;
}
