-- Why the begin or the end of a section of builders is refused. Causes stand in the order of the tests, each with
-- what the tests before it found; out of memory is told where nothing else is found.
use Rattle.std.specs.Prelude.{◌≡◌, ◌<◌, true, false, List, [], length, None, Some}
use Rattle.hb_base.specs.declared.name_id.NameId.{NameId}
use Rattle.hb_base.specs.declared.span.Span.{Span}
use Rattle.hb_env.specs.declared.decl.Decl.{Decl}
use Rattle.hb_env.specs.declared.entry.Head.{Head}
use Rattle.hb_env.specs.declared.entry.Head.TheVariants as heads
use Rattle.hb_env.specs.declared.entry.Places.{Places}
use Rattle.hb_env.specs.declared.refusal.Refusal.{Refusal}
use Rattle.hb_env.specs.declared.refusal.What.TheVariants.{NotYet, UnknownFactory, NotCarrier, SectionOpen, NoSection, Finished, NoMemory}
use Rattle.hb_hier.specs.Declaring.{EndRefusal}
use Rattle.hb_hier.specs.Hierarchy.{Hierarchy, known_as, ended}
use Rattle.hb_hier.specs.declared.error.HierRefused.{HierRefused}
use Rattle.hb_hier.specs.declared.known.Known.TheVariants.{Factory}
use Rattle.hb_items.specs.Comparing.{bad_at}
use Rattle.hb_items.specs.Items.{told}
use Rattle.hb_order.specs.declared.ids.FactoryId.{FactoryId}
use Rattle.hb_raw.specs.Sentence.{Act, builders, section_end}
use Rattle.hb_raw.specs.declared.word.Item.{Item}
use Rattle.hb_raw.specs.declared.word.Word.{Word}
use Rattle.hb_world.specs.Worlds.{Background, Opened}

-- the name is a factory's whose section wasn't ended
abbrev pub MayBegin : Hierarchy → NameId → Type 0
MayBegin h n = (f : FactoryId) × (known_as h n ≡ Some (Factory f)) × (ended h.endings f.0 ≡ false)

-- the name is no factory's, or that of a factory whose section was ended, and the refusal says so at the place
pub data FactoryCause (h : Hierarchy) (n : NameId) (p : Span) (r : Refusal) : Type 0 where
  no_factory :
      ((f : FactoryId) → ¬ (known_as h n ≡ Some (Factory f))) → r ≡ record { span = p; what = UnknownFactory n }
      → FactoryCause h n p r
  was_ended :
      (f : FactoryId) → known_as h n ≡ Some (Factory f) → ended h.endings f.0 ≡ true
      → r ≡ record { span = p; what = Finished n } → FactoryCause h n p r

-- why no section begins: s is the place of the command
pub data BeginCause (w : Background) (s : Span) (carrier : Word) (i : Item) (r : Refusal) : Type 0 where
  in_section : ¬ (w.section ≡ None) → r ≡ record { span = s; what = SectionOpen } → BeginCause w s carrier i r
  not_factory : w.section ≡ None → FactoryCause w.hier i.factory.name i.factory.span r → BeginCause w s carrier i r
  not_carrier :
      w.section ≡ None → MayBegin w.hier i.factory.name → ¬ (i.carrier.name.0 ≡ carrier.name.0)
      → r ≡ record { span = i.carrier.span; what = NotCarrier i.carrier.name } → BeginCause w s carrier i r
  begin_memory :
      w.section ≡ None → MayBegin w.hier i.factory.name → i.carrier.name.0 ≡ carrier.name.0
      → r ≡ record { span = i.factory.span; what = NoMemory } → BeginCause w s carrier i r

-- the hierarchy doesn't end the section, and the refusal says why at the place
pub record IsNotEnded (h : Hierarchy) (o : Opened) (p : Span) (r : Refusal) : Type 0 where
  pub cause : HierRefused
  pub refused : EndRefusal h o.factory cause
  pub refusal : r ≡ record { span = p; what = told h o.carrier cause }

-- why none ends, at the place: none is open, or it is that of no declared factory, or the hierarchy doesn't end it
pub data EndCause (w : Background) (p : Span) (r : Refusal) : Type 0 where
  no_section : w.section ≡ None → r ≡ record { span = p; what = NoSection } → EndCause w p r
  no_such_factory :
      (o : Opened) → w.section ≡ Some o → ¬ (o.factory.0 < length w.hier.factories)
      → r ≡ record { span = p; what = NoSection } → EndCause w p r
  not_ended :
      (o : Opened) → w.section ≡ Some o → o.factory.0 < length w.hier.factories → IsNotEnded w.hier o p r
      → EndCause w p r

-- why the command at the place is refused: one of another family isn't taken here
abbrev pub Refuses : Background → Span → Act → Refusal → Type 0
Refuses w s (builders c v i) r = BeginCause w s c i r
Refuses w s section_end r = EndCause w s r
Refuses w s _ r = r ≡ record { span = s; what = NotYet }

-- why the entry of a begin isn't taken: it has no declarations, and no carrier beside its factory
pub data LoadedBeginCause (w : Background) (p : Places) (n : NameId) (ds : List Decl) (r : Refusal) : Type 0 where
  loaded_in_section :
      ¬ (w.section ≡ None) → r ≡ record { span = p.span; what = SectionOpen } → LoadedBeginCause w p n ds r
  loaded_not_factory : w.section ≡ None → FactoryCause w.hier n p.span r → LoadedBeginCause w p n ds r
  begin_declares : w.section ≡ None → MayBegin w.hier n → ¬ (ds ≡ []) → r ≡ bad_at p p.count → LoadedBeginCause w p n ds r
  loaded_memory :
      w.section ≡ None → MayBegin w.hier n → ds ≡ [] → r ≡ record { span = p.span; what = NoMemory }
      → LoadedBeginCause w p n ds r

-- why the entry of an end isn't taken
pub data LoadedEndCause (w : Background) (p : Places) (ds : List Decl) (r : Refusal) : Type 0 where
  loaded_no_section :
      w.section ≡ None → r ≡ record { span = p.span; what = NoSection } → LoadedEndCause w p ds r
  end_declares : ¬ (w.section ≡ None) → ¬ (ds ≡ []) → r ≡ bad_at p p.count → LoadedEndCause w p ds r
  loaded_not_ended : ¬ (w.section ≡ None) → ds ≡ [] → EndCause w p.span r → LoadedEndCause w p ds r

-- why the entry with the head and the declarations, at the places, isn't taken
abbrev pub LoadRefuses : Background → Places → Head → List Decl → Refusal → Type 0
LoadRefuses w p (heads.Builders n c v) ds r = LoadedBeginCause w p n ds r
LoadRefuses w p heads.End ds r = LoadedEndCause w p ds r
LoadRefuses w p _ ds r = r ≡ record { span = p.span; what = NotYet }
