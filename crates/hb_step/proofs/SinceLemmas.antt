-- What was added by one command after another, and the way back.
use Rattle.std.proofs.Common.{◌≡◌, ℕ, List, [], ◌++◌, length, take, refl, sym, ◌∙◌, append_assoc, Option, None, Some}
use Rattle.std.proofs.lemmas.List.{append-nil}
use Rattle.std.proofs.Math.Seq.{take-append_seam}
use Rattle.hb_sets.specs.Set.{Set}
use Rattle.hb_calculus.specs.Declarations.{Decl}
use Rattle.hb_hier.proofs.GrewLemmas as hier
use Rattle.hb_tables.proofs.GrowLemmas as tables
use Rattle.hb_world.specs.Worlds.{Opened, Background, IsAsBefore}
use Rattle.hb_world.specs.Taking.{Extends}
use Rattle.hb_step.specs.Marks.{OpenedGrew, SectionGrew, Since}

pub opened_same : (s : Opened) → OpenedGrew s s
opened_same s = record {
  given = [];
  provided = s.provided;
  definitions = [];
  grown = rw (append-nil s.given, append-nil s.definitions) refl;
}

pub opened_trans : (r s t : Opened) → OpenedGrew r s → OpenedGrew s t → OpenedGrew r t
opened_trans r s t f g = record {
  given = f.given ++ g.given;
  provided = g.provided;
  definitions = f.definitions ++ g.definitions;
  grown = g.grown ∙ rw (f.grown, append_assoc r.given f.given g.given, append_assoc r.definitions f.definitions g.definitions) refl;
}

pub section_same : (o : Option Opened) → SectionGrew o o
section_same None = refl
section_same (Some s) = opened_same s

pub section_trans : (a b c : Option Opened) → SectionGrew a b → SectionGrew b c → SectionGrew a c
section_trans None b c f g = rw f at g
section_trans (Some r) None c f g = absurd f
section_trans (Some r) (Some s) None f g = absurd g
section_trans (Some r) (Some s) (Some t) f g = opened_trans r s t f g

pub extends_same : (N N' : List (List ℕ)) → N' ≡ N → Extends N N'
extends_same N N' is = ([], is ∙ sym (append-nil N))

pub extends_trans : (a b c : List (List ℕ)) → Extends a b → Extends b c → Extends a c
extends_trans a b c f g = (f.0 ++ g.0, g.1 ∙ rw f.1 (append_assoc a f.0 g.0))

-- nothing was added but names
pub since_same : (E E' : List Decl) (w w' : Background) → E' ≡ E → IsAsBefore w w' → Since E w E' w'
since_same E E' w w' e b = record {
  declared = [];
  declared_are = e ∙ sym (append-nil E);
  names = (b.more, b.names);
  hier_grew = hier.grew_same w.hier w'.hier b.hier;
  tables_grew = tables.grew_same w.tables w'.tables b.tables;
  section = rw b.section (section_same w.section);
}

pub since_refl : (E : List Decl) (w : Background) → Since E w E w
since_refl E w = record {
  declared = [];
  declared_are = sym (append-nil E);
  names = ([], sym (append-nil w.names));
  hier_grew = hier.grew_same w.hier w.hier refl;
  tables_grew = tables.grew_same w.tables w.tables refl;
  section = section_same w.section;
}

pub since_trans :
    (E F G : List Decl) (u v w : Background) → Since E u F v → Since F v G w → Since E u G w
since_trans E F G u v w f g = record {
  declared = f.declared ++ g.declared;
  declared_are = g.declared_are ∙ rw f.declared_are (append_assoc E f.declared g.declared);
  names = extends_trans u.names v.names w.names f.names g.names;
  hier_grew = hier.grew_trans u.hier v.hier w.hier f.hier_grew g.hier_grew;
  tables_grew = tables.grew_trans u.tables v.tables w.tables f.tables_grew g.tables_grew;
  section = section_trans u.section v.section w.section f.section g.section;
}

-- so many of each list of a section that grew are those of the old one
pub undone :
    (s t : Opened) (n m : ℕ) (p : Set) → OpenedGrew s t → n ≡ length s.given → p ≡ s.provided → m ≡ length s.definitions
    → record t { given = take n t.given; provided = p; definitions = take m t.definitions } ≡ s
undone s t n m p g a b c =
    rw
    (g.grown, a, b, c, take-append_seam s.given g.given, take-append_seam s.definitions g.definitions)
    refl
