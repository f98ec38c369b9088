-- The definitions of an open section.
use Rattle.std.specs.Prelude.{◌<◌, List, ◌∷◌, [], ◌++◌, Option, None, Some}
use Rattle.std.specs.Option.{option_map}
use Rattle.std.specs.Vec.{vec_len, vec_capacity}
use Rattle.hb_base.specs.declared.name_id.NameId.{NameId}
use Rattle.hb_calculus.specs.Declarations.{Decl, a_definition}
use Rattle.hb_env.specs.declared.entry.Head.{Head}
use Rattle.hb_env.specs.declared.entry.Head.TheVariants as heads
use Rattle.hb_raw.specs.Sentence.{Act, definition}
use Rattle.hb_world.specs.Worlds.{Opened}
use Rattle.hb_world.specs.declared.section.Section.{Section}

-- the section, if there is one, has room for one definition more
abbrev pub HasRoom : Option Section → Type 0
HasRoom None = Unit {0}
HasRoom (Some s) = vec_len s.definitions < vec_capacity s.definitions

-- the section with one definition more
abbrev pub with_definition : NameId → Opened → Opened
with_definition n s = record s { definitions = s.definitions ++ n ∷ [] }

abbrev pub with_name : NameId → Option Opened → Option Opened
with_name n o = option_map (with_definition n) o

-- what a command leaves of the open section: a definition is one more of its definitions
abbrev pub section_after : Act → Option Opened → Option Opened
section_after (definition n bs ty b) o = with_name n.name o
section_after _ o = o

-- what the declarations of an entry leave of it
abbrev pub with_declared : List Decl → Option Opened → Option Opened
with_declared (a_definition n t b ∷ []) o = with_name (record { 0 = n }) o
with_declared _ o = o

abbrev pub section_loaded : Head → List Decl → Option Opened → Option Opened
section_loaded heads.Definition ds o = with_declared ds o
section_loaded _ ds o = o
