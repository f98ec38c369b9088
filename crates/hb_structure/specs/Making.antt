-- The declarations that a structure makes.
use Rattle.std.specs.Prelude.{◌≡◌, ℕ, ◌++◌, List, length, None}
use Rattle.hb_base.specs.declared.name_id.NameId.{NameId}
use Rattle.hb_calculus.specs.Declarations.{Decl}
use Rattle.hb_env.specs.Plain.{plains}
use Rattle.hb_env.specs.declared.entry.Head.{Head}
use Rattle.hb_env.specs.declared.entry.Head.TheVariants as heads
use Rattle.hb_generated.specs.Generating.{gen_shape, entries_of}
use Rattle.hb_generated.specs.Session.{IsPrefix}
use Rattle.hb_generated.specs.State.{State, decls}
use Rattle.hb_givings.specs.Givings.{carriers_of}
use Rattle.hb_hier.specs.Declaring.{with_structure}
use Rattle.hb_hier.specs.Hierarchy.{Hierarchy, brought}
use Rattle.hb_pack.specs.Packing.{IsOver}
use Rattle.hb_pack.specs.Roles.{entered}
use Rattle.hb_pack.specs.declared.roles.Role.{Role}
use Rattle.hb_raw.specs.Sentence.{Act, structure}
use Rattle.hb_sets.specs.Set.{Set}
use Rattle.hb_tables.specs.Maps.{Maps}
use Rattle.hb_world.specs.Taking.{factory_names}
use Rattle.hb_world.specs.Worlds.{Background}
use Rattle.hb_world.specs.declared.done.Done.{Done}
use Rattle.hb_world.specs.declared.done.Done.TheVariants as done

-- the session as generated declarations read it
abbrev pub state : List Decl → Background → State
state E w = record { names = w.names; env = E; hier = w.hier; tables = w.tables; section = None; made = w.made }

-- the records, operations and coercions of structure n with the set x, whatever names come after N
abbrev pub IsShape : List (List ℕ) → List Decl → Hierarchy → Maps → NameId → Set → List Decl → Type 0
IsShape N E h T n x ds = (M : List (List ℕ)) (S : State) → IsPrefix N M → IsOver S E h T → ds ≡ decls (gen_shape M S n.0 x)

-- what structure n with the items ns, which bring the set x, declares where N are the names: its records, operations
-- and coercions, and then the instances that carriers newly take, by the tables that have the former in some roles
pub record IsMade (N : List (List ℕ)) (E : List Decl) (w : Background) (n : NameId) (ns : List NameId) (x : Set) (ds : List Decl) : Type 0 where
  pub roles : List Role
  pub made_are :
      ds
      ≡ decls (gen_shape N (state E w) n.0 x)
      ++ decls (entries_of N E (entered (length E) roles w.tables) (with_structure w.hier n ns) (carriers_of w.hier.givings))

-- the entry of the command's structure has the declarations that it makes
abbrev pub HasMade : List (List ℕ) → List Decl → Background → Act → Done → Type 0
HasMade N E w (structure n c is) (done.Entry e) =
    IsMade N E w n.name (factory_names is) (brought w.hier (factory_names is)) (plains e.decls.items)
HasMade N E w _ d = ⊥

-- the declarations of the entry of a structure are those that it makes
abbrev pub HasMadeOf : List (List ℕ) → List Decl → Background → Head → List Decl → Type 0
HasMadeOf N E w (heads.Structure n v) ds = IsMade N E w n v.items (brought w.hier v.items) ds
HasMadeOf N E w _ ds = ⊥
