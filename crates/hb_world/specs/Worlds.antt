-- Worlds of sessions, as plain data.
use Rattle.std.specs.Prelude.{◌≡◌, ℕ, ◌++◌, List, [], map, Option, None, Some}
use Rattle.std.specs.Option.{option_map}
use Rattle.hb_base.specs.declared.name_id.NameId.{NameId}
use Rattle.hb_sets.specs.Set.{Set}
use Rattle.hb_order.specs.declared.ids.FactoryId.{FactoryId}
use Rattle.hb_order.specs.declared.ids.MixinId.{MixinId}
use Rattle.hb_tree.specs.Tree.{Tree}
use Rattle.hb_term.specs.Meaning.{tree}
use Rattle.hb_term.specs.declared.term.Term.{Term}
use Rattle.hb_hier.specs.Hierarchy.{Hierarchy, nothing}
use Rattle.hb_tables.specs.Maps.{Maps, none}
use Rattle.hb_tables.specs.declared.carrier.Carrier.{Carrier}
use Rattle.hb_world.specs.declared.section.Section.{Section}
use Rattle.hb_world.specs.declared.world.World.{World}

-- an open section of builders: the types of its context's variables, outermost first, and what its local
-- carrier has, each with its value in a context of so many variables
pub record Opened : Type 0 where
  pub factory : FactoryId
  pub carrier : NameId
  pub var : Option NameId
  pub context : List Tree
  pub level : ℕ
  pub depth : ℕ
  pub given : List (MixinId × Tree)
  pub provided : Set
  pub definitions : List NameId

abbrev pub value_of : MixinId × Term → MixinId × Tree
value_of g = (g.0, tree g.1)

abbrev pub opened : Section → Opened
opened s = record {
  factory = s.factory;
  carrier = s.carrier;
  var = s.var;
  context = map tree s.context.items;
  level = s.own.level;
  depth = s.own.depth;
  given = map value_of s.own.given.items;
  provided = s.provided;
  definitions = s.definitions.items;
}

-- what a session knows beside its declarations
pub record Background : Type 0 where
  pub names : List (List ℕ)
  pub hier : Hierarchy
  pub tables : Maps
  pub section : Option Opened
  pub made : ℕ

abbrev pub background : World → Background
background w = record { names = w.names; hier = w.hier; tables = w.tables; section = option_map opened w.section; made = w.made }

-- the world of a session in which nothing was accepted
abbrev pub blank : Background
blank = record { names = []; hier = nothing; tables = none; section = None; made = 0 }

-- all is as before but the names, which may be more
pub record IsAsBefore (old new : Background) : Type 0 where
  pub more : List (List ℕ)
  pub names : new.names ≡ old.names ++ more
  pub hier : new.hier ≡ old.hier
  pub tables : new.tables ≡ old.tables
  pub section : new.section ≡ old.section
  pub made : new.made ≡ old.made
