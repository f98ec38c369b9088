-- What a structure adds, part by part.
use Rattle.std.proofs.Common.{◌≡◌, ℕ, List, []}
use Rattle.std.proofs.lemmas.List.{append-nil}
use Rattle.hb_calculus.specs.Declarations.{Decl}
use Rattle.hb_hier.specs.Hierarchy.{Hierarchy}
use Rattle.hb_hier.specs.Undoing as hier
use Rattle.hb_hier.proofs.GrewLemmas as hier_lemmas
use Rattle.hb_tables.specs.Maps.{Maps}
use Rattle.hb_tables.specs.Growing as tables
use Rattle.hb_tables.proofs.GrowLemmas as table_lemmas
use Rattle.hb_world.specs.Taking.{Extends}
use Rattle.hb_world.specs.Worlds.{Background}
use Rattle.hb_step.specs.Marks.{Since}
use Rattle.hb_step.proofs.SinceLemmas as since
use Rattle.std.proofs.Common.{sym}

pub extends_same : (N N' : List (List ℕ)) → N' ≡ N → Extends N N'
extends_same = since.extends_same

pub hier_same : (h h' : Hierarchy) → h' ≡ h → hier.Grew h h'
hier_same = hier_lemmas.grew_same

pub tables_same : (t t' : Maps) → t' ≡ t → tables.Grew t t'
tables_same = table_lemmas.grew_same

-- names, hierarchy and tables only grew, and the section is the same
pub since_of : (E : List Decl) (w w' : Background) → Extends w.names w'.names → hier.Grew w.hier w'.hier → tables.Grew w.tables w'.tables
    → w'.section ≡ w.section → Since E w E w'
since_of E w w' names h t section = record {
  declared = [];
  declared_are = sym (append-nil E);
  names = names;
  hier_grew = h;
  tables_grew = t;
  section = rw section (since.section_same w.section);
}
