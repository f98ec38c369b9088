-- What an accepted command reports.
use Rattle.std.specs.Prelude.{◌≡◌, ◌⊎◌, ℕ, true, false, List, [], ◌∷◌, length, Option, None, Some, codes}
use Rattle.std.specs.Global.{Vec}
use Rattle.hb_base.specs.declared.name_id.NameId.{NameId}
use Rattle.hb_sets.specs.Set.{Set, is_subset, union}
use Rattle.hb_order.specs.Givings.{given}
use Rattle.hb_order.specs.Heirs.{mix}
use Rattle.hb_order.specs.declared.ids.StructId.{StructId}
use Rattle.hb_tree.specs.declared.leaves.ConstId.{ConstId}
use Rattle.hb_calculus.specs.Declarations.{Decl}
use Rattle.hb_env.specs.Naming.{name_in}
use Rattle.hb_env.specs.declared.named.Named.TheVariants.{Const}
use Rattle.hb_givings.specs.Givings.{givings_at}
use Rattle.hb_hier.specs.declared.known.Known.{Known}
use Rattle.hb_hier.specs.declared.known.Known.TheVariants.{Factory, Structure}
use Rattle.hb_hier.specs.Hierarchy as hierarchy
use Rattle.hb_hier.specs.Hierarchy.{Hierarchy, known_as, required, sets}
use Rattle.hb_howto.specs.Ways.{AreWays}
use Rattle.hb_plain.specs.Queries.{IsJoinOf}
use Rattle.hb_term.specs.declared.scoped.Scoped.{Scoped}
use Rattle.hb_raw.specs.declared.word.Word.{Word}
use Rattle.hb_report.specs.Lines.{name_of}
use Rattle.hb_writer.specs.Text.{joined}
use Rattle.hb_raw.specs.Sentence.{Act, axiom_of, definition, mixin, factory, builders, section_end, structure, instance, join, find, require, howto, about}
use Rattle.hb_events.specs.declared.event.Event.{Event}
use Rattle.hb_events.specs.declared.event.Event.TheVariants as event
use Rattle.hb_events.specs.declared.event.Had.{Had}
use Rattle.hb_events.specs.declared.event.Had.TheVariants.{Declared, Local}
use Rattle.hb_world.specs.Worlds.{Background, Opened}

-- the end of the open section's factory
abbrev pub TellsEnd : Option Opened → Event → Type 0
TellsEnd None e = Unit {0}
TellsEnd (Some o) e = e ≡ event.End o.factory

-- the mixins of a section's local carrier: those that its factory needs, if there is such a one, and what was given
abbrev pub local_mixins : Hierarchy → Opened → Option NameId → Set
local_mixins h o None = o.provided
local_mixins h o (Some n) = union (required h (Factory o.factory)) o.provided

-- what carriers have before an instance: so many declarations stand for it, or in a section its local carrier's mixins
abbrev pub had_in : List Decl → Hierarchy → Option Opened → Had
had_in E h None = Declared (length E)
had_in E h (Some o) = Local (local_mixins h o (hierarchy.name_of h (Factory o.factory)))

-- the mixins of a structure, and those that a carrier was given
abbrev pub wanted_of : Hierarchy → StructId → Set
wanted_of h s = mix (sets h) s.0

abbrev pub held_by : Hierarchy → ConstId → Set
held_by h k = given (givings_at h.givings k)

-- the carrier has the structure, and that is told
abbrev pub IsGiven : Hierarchy → StructId → ConstId → (s k : Word) → Event → Type 0
IsGiven h i c s k e = (is_subset (wanted_of h i) (held_by h c) ≡ true) × (e ≡ event.Given s.name k.name)

-- it hasn't, and least lists that give it are told
abbrev pub IsHowto : Hierarchy → StructId → ConstId → (s k : Word) → Event → Type 0
IsHowto h i c s k e =
    (is_subset (wanted_of h i) (held_by h c) ≡ false)
    × ((ls : Vec (Vec NameId)) × AreWays h (wanted_of h i) (held_by h c) ls.items × (e ≡ event.Howto s.name k.name ls))

-- the ways from a carrier, which is a constant's name, to a structure are told
pub record TellsHowto (E : List Decl) (h : Hierarchy) (s k : Word) (e : Event) : Type 0 where
  pub wanted : StructId
  pub wanted_is : known_as h s.name ≡ Some (Structure wanted)
  pub carrier : ConstId
  pub carrier_is : name_in E (Const carrier) ≡ Some k.name.0
  pub ways : IsGiven h wanted carrier s k e ⊎ IsHowto h wanted carrier s k e

-- the join of the two structures is told
abbrev pub TellsJoin : Hierarchy → (a b : Word) → Event → Type 0
TellsJoin h a b e = (j : Option StructId) × (e ≡ event.Join a.name b.name j) × IsJoinOf h a.name b.name j

-- what is declared under the name is told
abbrev pub TellsAbout : Hierarchy → Word → Event → Type 0
TellsAbout h n e = (known : Known) × (e ≡ event.About n.name known) × (known_as h n.name ≡ Some known)

-- what a command reports that is accepted where this is declared, and this beside it
abbrev pub IsEventOf : List Decl → Background → Act → Event → Type 0
IsEventOf E w (axiom_of n ty) e = e ≡ event.Axiom n.name
IsEventOf E w (definition n bs ty b) e = e ≡ event.Definition n.name
IsEventOf E w (mixin n c is fs) e = e ≡ event.Mixin n.name
IsEventOf E w (factory n c is fs) e = e ≡ event.Factory n.name
IsEventOf E w (builders c v i) e = e ≡ event.Builders i.factory.name
IsEventOf E w section_end e = TellsEnd w.section e
IsEventOf E w (structure n c is) e = e ≡ event.Structure (record { 0 = length w.hier.structures })
IsEventOf E w (instance n bs f c ws t) e = e ≡ event.Instance f.name c.name (had_in E w.hier w.section)
IsEventOf E w (join a b) e = TellsJoin w.hier a b e
IsEventOf E w (find s c) e = (k : Option Scoped) × (e ≡ event.Find s.name k)
IsEventOf E w (require n) e = e ≡ event.Require n.name
IsEventOf E w (howto s k) e = TellsHowto E w.hier s k e
IsEventOf E w (about n) e = TellsAbout w.hier n e

-- the source that a required name stands for
abbrev pub source_name : List (List ℕ) → ℕ → List ℕ
source_name N n = joined (name_of N n ∷ codes ".v" ∷ [])
