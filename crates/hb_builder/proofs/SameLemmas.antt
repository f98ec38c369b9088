-- Worlds that stay.
use Rattle.std.proofs.Common.{◌≡◌, ℕ, List, [], ◌++◌, refl, sym}
use Rattle.std.proofs.lemmas.List.{append-nil}
use Rattle.hb_calculus.specs.Declarations.{Decl}
use Rattle.hb_env.specs.declared.decl.Decl as env
use Rattle.hb_env.specs.Plain.{plains}
use Rattle.hb_world.specs.Worlds.{Background, IsAsBefore}
use Rattle.hb_world.specs.Taking.{Extends}

pub as_before_same : (w w' : Background) → w' ≡ w → IsAsBefore w w'
as_before_same w w' is = rw is record { more = []; names = sym (append-nil w.names); hier = refl; tables = refl; section = refl; made = refl }

pub extends_same : (N N' : List (List ℕ)) → N' ≡ N → Extends N N'
extends_same N N' is = ([], rw is (sym (append-nil N)))

pub nothing_more : (E : List Decl) (ds : List env.Decl) → ds ≡ [] → E ≡ E ++ plains ds
nothing_more E ds is = rw is (sym (append-nil E))
