-- What a command may add, and the way back.
use Rattle.std.specs.Prelude.{◌≡◌, ◌++◌, List, length, Option, None, Some}
use Rattle.hb_base.specs.declared.name_id.NameId.{NameId}
use Rattle.hb_order.specs.declared.ids.MixinId.{MixinId}
use Rattle.hb_sets.specs.Set.{Set}
use Rattle.hb_tree.specs.Tree.{Tree}
use Rattle.hb_calculus.specs.Declarations.{Decl}
use Rattle.hb_hier.specs.Undoing as hier
use Rattle.hb_tables.specs.Growing as tables
use Rattle.hb_tables.specs.Maps as maps
use Rattle.hb_world.specs.Worlds.{Opened, Background}
use Rattle.hb_world.specs.Taking.{Extends}
use Rattle.hb_step.specs.declared.marks.Mark.{Mark}
use Rattle.hb_step.specs.declared.marks.SectionMark.{SectionMark}

-- the same section, whose carrier may have more, and which may have more definitions
pub record OpenedGrew (s t : Opened) : Type 0 where
  pub given : List (MixinId × Tree)
  pub provided : Set
  pub definitions : List NameId
  pub grown :
      t ≡ record s { given = s.given ++ given; provided = provided; definitions = s.definitions ++ definitions }

-- the same of the open section, if there is one
abbrev pub SectionGrew : Option Opened → Option Opened → Type 0
SectionGrew None o = o ≡ None
SectionGrew (Some s) None = ⊥
SectionGrew (Some s) (Some t) = OpenedGrew s t

-- declarations and a world that came of others by adding
pub record Since (E : List Decl) (w : Background) (E' : List Decl) (w' : Background) : Type 0 where
  pub declared : List Decl
  pub declared_are : E' ≡ E ++ declared
  pub names : Extends w.names w'.names
  pub hier_grew : hier.Grew w.hier w'.hier
  pub tables_grew : tables.Grew w.tables w'.tables
  pub section : SectionGrew w.section w'.section

-- the mark of an open section
abbrev pub IsSectionMark : Option SectionMark → Option Opened → Type 0
IsSectionMark None o = o ≡ None
IsSectionMark (Some m) None = ⊥
IsSectionMark (Some m) (Some s) =
    (m.given ≡ length s.given) × (m.provided ≡ s.provided) × (m.definitions ≡ length s.definitions)

-- the mark tells how much there is
pub record IsMark (m : Mark) (E : List Decl) (w : Background) : Type 0 where
  pub declared : m.declared ≡ length E
  pub hier_is : m.hier ≡ hier.mark_of w.hier
  pub hier_whole : hier.IsWhole w.hier
  pub tables_are : m.tables ≡ maps.mark_of w.tables
  pub tables_whole : tables.IsWhole w.tables
  pub section : IsSectionMark m.section w.section
  pub made : m.made ≡ w.made
