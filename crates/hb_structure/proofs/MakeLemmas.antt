-- What a structure makes, put together.
use Rattle.std.proofs.Common.{◌≡◌, ℕ, List, [], ◌++◌, length, refl, sym, ◌∙◌}
use Rattle.std.proofs.lemmas.List.{append-nil}
use Rattle.hb_base.specs.declared.name_id.NameId.{NameId}
use Rattle.hb_calculus.specs.Declarations.{Decl}
use Rattle.hb_generated.specs.Generating.{entries_of}
use Rattle.hb_generated.specs.Session.{IsPrefix}
use Rattle.hb_generated.specs.State.{decls}
use Rattle.hb_givings.specs.Givings.{carriers_of}
use Rattle.hb_hier.specs.Declaring.{with_structure}
use Rattle.hb_hier.specs.Hierarchy.{Hierarchy}
use Rattle.hb_pack.specs.Packing.{IsOver}
use Rattle.hb_pack.specs.Roles.{entered}
use Rattle.hb_pack.specs.declared.roles.Role.{Role}
use Rattle.hb_sets.specs.Set.{Set}
use Rattle.hb_tables.specs.Maps.{Maps}
use Rattle.hb_world.specs.Taking.{Extends}
use Rattle.hb_world.specs.Worlds.{Background}
use Rattle.hb_structure.specs.Making.{state, IsShape, IsMade}

pub whole : (N : List (List ℕ)) → IsPrefix N N
whole N = ([], sym (append-nil N))

pub is_over : (E : List Decl) (w : Background) → IsOver (state E w) E w.hier w.tables
is_over E w = record { env = refl; hier = refl; tables = refl }

pub makes :
    (M N : List (List ℕ)) (E : List Decl) (w : Background) (n : NameId) (ns : List NameId) (x : Set) (rs : List Role)
    (shape ds : List Decl) (T : Maps) (h : Hierarchy) → Extends M N
    → IsShape M E w.hier w.tables n x shape
    → T ≡ entered (length E) rs w.tables → h ≡ with_structure w.hier n ns
    → ((K : List (List ℕ)) → IsPrefix N K → ds ≡ shape ++ decls (entries_of K E T h (carriers_of h.givings)))
    → IsMade N E w n ns x ds
makes M N E w n ns x rs shape ds T h more s t g d = record {
  roles = rs;
  made_are = d N (whole N) ∙ rw (s N (state E w) more (is_over E w), t, g) refl;
}
