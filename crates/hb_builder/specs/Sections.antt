-- What the begin and the end of a section of builders do to a world.
use Rattle.std.specs.Prelude.{◌≡◌, [], Option, None, Some, false}
use Rattle.std.specs.Option.{option_map}
use Rattle.hb_base.specs.declared.name_id.NameId.{NameId}
use Rattle.hb_sets.specs.Set.{empty}
use Rattle.hb_order.specs.declared.ids.FactoryId.{FactoryId}
use Rattle.hb_env.specs.declared.entry.Head.{Head}
use Rattle.hb_env.specs.declared.entry.Head.TheVariants as heads
use Rattle.hb_raw.specs.Sentence.{Act, builders, section_end}
use Rattle.hb_hier.specs.Hierarchy.{known_as, ended}
use Rattle.hb_hier.specs.Declaring.{with_ending}
use Rattle.hb_hier.specs.declared.known.Known.TheVariants.{Factory}
use Rattle.hb_world.specs.Worlds.{Background, Opened}
use Rattle.hb_world.specs.Taking.{word_name}
use Rattle.hb_world.specs.declared.done.Done.{Done}
use Rattle.hb_world.specs.declared.done.Done.TheVariants as done

-- a section of the factory, at the carrier and with the variable, in which nothing was given or defined
abbrev pub IsNew : FactoryId → NameId → Option NameId → Opened → Type 0
IsNew f carrier var o = (o.factory ≡ f) × (o.carrier ≡ carrier) × (o.var ≡ var) × (o.provided ≡ empty) × (o.definitions ≡ [])

-- such a section is open
abbrev pub IsOpen : FactoryId → NameId → Option NameId → Option Opened → Type 0
IsOpen f carrier var None = ⊥
IsOpen f carrier var (Some o) = IsNew f carrier var o

-- it opens: hierarchy and tables stay
abbrev pub Opens : FactoryId → NameId → Option NameId → Background → Background → Type 0
Opens f carrier var old new = (new.hier ≡ old.hier) × (new.tables ≡ old.tables) × IsOpen f carrier var new.section

-- a section begins where none was open: the name is a factory's whose section wasn't ended, and its section opens
abbrev pub HasBegun : NameId → NameId → Option NameId → Background → Background → Type 0
HasBegun name carrier var old new =
    (f : FactoryId) × (known_as old.hier name ≡ Some (Factory f)) × (ended old.hier.endings f.0 ≡ false)
    × (old.section ≡ None) × Opens f carrier var old new

-- the open section is closed: its factory provides what was given in it, and the tables stay
abbrev pub Closes : Option Opened → Background → Background → Type 0
Closes None old new = ⊥
Closes (Some o) old new = (new.hier ≡ with_ending old.hier o.factory o.provided) × (new.tables ≡ old.tables) × (new.section ≡ None)

-- a section that was open ends
abbrev pub HasEnded : Background → Background → Type 0
HasEnded old new = Closes old.section old new

-- what a command does
abbrev pub HasSection : Act → Background → Background → Type 0
HasSection (builders c v i) old new = HasBegun i.factory.name c.name (option_map word_name v) old new
HasSection section_end old new = HasEnded old new
HasSection _ old new = ⊥

-- the entry of a begin or an end has no declarations
abbrev pub DeclaresNothing : Done → Type 0
DeclaresNothing (done.Entry e) = e.decls.items ≡ []
DeclaresNothing _ = ⊥

-- what an entry of a library does
abbrev pub HasLoaded : Head → Background → Background → Type 0
HasLoaded (heads.Builders name carrier var) old new = HasBegun name carrier var old new
HasLoaded heads.End old new = HasEnded old new
HasLoaded _ old new = ⊥
