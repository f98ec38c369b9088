-- What an accepted command does to the hierarchy, and to the open section.
use Rattle.std.specs.Prelude.{◌≡◌, List, Option}
use Rattle.std.specs.Option.{option_map}
use Rattle.hb_base.specs.declared.name_id.NameId.{NameId}
use Rattle.hb_builder.specs.Sections.{HasBegun, HasEnded}
use Rattle.hb_calculus.specs.Declarations.{Decl}
use Rattle.hb_env.specs.declared.entry.Head.{Head}
use Rattle.hb_env.specs.declared.entry.Head.TheVariants as heads
use Rattle.hb_hier.specs.Declaring.{with_mixin, with_factory, with_structure}
use Rattle.hb_hier.specs.Hierarchy.{Hierarchy}
use Rattle.hb_instance.specs.Giving.{Gives, IsKept}
use Rattle.hb_mixin.specs.Declaring.{field_names, HasDeclaredOf}
use Rattle.hb_plain.specs.Sections.{section_loaded, with_name}
use Rattle.hb_raw.specs.Sentence.{Act, axiom_of, definition, mixin, factory, builders, section_end, structure, instance, join, find, require, howto, about}
use Rattle.hb_world.specs.Taking.{binder_names, factory_names, word_name}
use Rattle.hb_world.specs.Worlds.{Background, Opened}

-- A mixin, a factory or a structure is declared last; builders open the section of their factory, and its end closes
-- it; an instance gives at the constant of its carrier, or in a section nothing; all else leaves the hierarchy as it is.
abbrev pub Grows : Act → List Decl → (old new : Background) → Type 0
Grows (axiom_of n ty) E old new = new.hier ≡ old.hier
Grows (definition n bs ty b) E old new = new.hier ≡ old.hier
Grows (mixin n c is fs) E old new = new.hier ≡ with_mixin old.hier n.name (factory_names is) (field_names fs)
Grows (factory n c is fs) E old new = new.hier ≡ with_factory old.hier n.name (factory_names is) (field_names fs)
Grows (builders c v i) E old new = HasBegun i.factory.name c.name (option_map word_name v) old new
Grows section_end E old new = HasEnded old new
Grows (structure n c is) E old new = new.hier ≡ with_structure old.hier n.name (factory_names is)
Grows (instance n bs f c ws t) E old new = Gives old.section E f.name c.name (binder_names bs) old.hier new.hier
Grows (join a b) E old new = new.hier ≡ old.hier
Grows (find s c) E old new = new.hier ≡ old.hier
Grows (require n) E old new = new.hier ≡ old.hier
Grows (howto s c) E old new = new.hier ≡ old.hier
Grows (about n) E old new = new.hier ≡ old.hier

-- A definition leaves its name in the open section, an instance what its factory provides; builders open a section and
-- their end closes it, as is said above; all else leaves it as it is.
abbrev pub Leaves : Act → Hierarchy → (old new : Option Opened) → Type 0
Leaves (definition n bs ty b) h o o' = o' ≡ with_name n.name o
Leaves (builders c v i) h o o' = Unit {0}
Leaves section_end h o o' = Unit {0}
Leaves (instance n bs f c ws t) h o o' = IsKept h f.name o o'
Leaves _ h o o' = o' ≡ o

-- The same of an entry of a library, or of a core text, with these declarations. That of a mixin or a factory has its
-- name and those of its fields from its record.
abbrev pub GrowsBy : Head → (declared : List Decl) → List Decl → (old new : Background) → Type 0
GrowsBy (heads.Mixin v) ds E old new = HasDeclaredOf new.names E (heads.Mixin v) ds old.hier new.hier
GrowsBy (heads.Factory v) ds E old new = HasDeclaredOf new.names E (heads.Factory v) ds old.hier new.hier
GrowsBy (heads.Builders name carrier var) ds E old new = HasBegun name carrier var old new
GrowsBy heads.End ds E old new = HasEnded old new
GrowsBy (heads.Structure n v) ds E old new = new.hier ≡ with_structure old.hier n v.items
GrowsBy (heads.Instance f c v) ds E old new = Gives old.section E f c v.items old.hier new.hier
GrowsBy _ ds E old new = new.hier ≡ old.hier

abbrev pub LeavesBy : Head → (declared : List Decl) → Hierarchy → (old new : Option Opened) → Type 0
LeavesBy (heads.Builders name carrier var) ds h o o' = Unit {0}
LeavesBy heads.End ds h o o' = Unit {0}
LeavesBy (heads.Instance f c v) ds h o o' = IsKept h f o o'
LeavesBy head ds h o o' = o' ≡ section_loaded head ds o

-- the entry of a required file
abbrev pub IsRequire : Head → Type 0
IsRequire (heads.Require n) = Unit {0}
IsRequire _ = ⊥
