-- What the commands on a hierarchy say of names.
use Rattle.std.specs.Prelude.{◌≡◌, ◌⊎◌, ℕ, ◌<◌, List, [], ◌∷◌, length, slice_index_or, Some, None}
use Rattle.std.specs.Option.{unwrap_or}
use Rattle.hb_base.specs.declared.name_id.NameId.{NameId}
use Rattle.hb_base.specs.declared.span.Span.{Span}
use Rattle.hb_order.specs.declared.ids.MixinId.{MixinId}
use Rattle.hb_order.specs.declared.ids.StructId.{StructId}
use Rattle.hb_env.specs.declared.refusal.Refusal.{Refusal}
use Rattle.hb_env.specs.declared.refusal.What.{What}
use Rattle.hb_env.specs.declared.refusal.What.TheVariants as what
use Rattle.hb_hier.specs.declared.error.HierRefused.{HierRefused}
use Rattle.hb_hier.specs.declared.error.HierRefused.TheVariants as hier
use Rattle.hb_hier.specs.declared.known.Known.{Known}
use Rattle.hb_hier.specs.declared.known.Known.TheVariants.{Mixin, Structure}
use Rattle.hb_hier.specs.Hierarchy.{Hierarchy, nameless, name_of}
use Rattle.hb_hier.specs.Declaring.{fault, NoFault}
use Rattle.hb_raw.specs.declared.word.Item.{Item}

-- the name of what was declared; the first name where it wasn't
abbrev pub known_name : Hierarchy → Known → NameId
known_name h k = unwrap_or (name_of h k) nameless

abbrev pub mixin_at : Hierarchy → MixinId → NameId
mixin_at h m = known_name h (Mixin m)

abbrev pub structure_at : Hierarchy → StructId → NameId
structure_at h s = known_name h (Structure s)

-- what a refusal of the hierarchy prints, for a command at the carrier k
abbrev pub told : Hierarchy → NameId → HierRefused → What
told h k (hier.UnknownFactory n) = what.UnknownFactory n
told h k (hier.Unfinished n) = what.Unfinished n
told h k (hier.Finished n) = what.Finished n
told h k (hier.MissingMixin m) = what.MissingMixin (mixin_at h m)
told h k (hier.Unmet m d) = what.Unmet (mixin_at h m) (mixin_at h d) k
told h k hier.EmptyStructure = what.EmptyStructure
told h k (hier.SameStructure s) = what.SameStructure (structure_at h s)
told h k (hier.AboveDeclared s) = what.AboveDeclared (structure_at h s)
told h k (hier.MissingJoin a b j) = what.MissingJoin (structure_at h a) (structure_at h b) (structure_at h j)
told h k (hier.TooMany c) = what.TooMany c
told h k hier.NoMemory = what.NoMemory

-- the name can't stand in a list, and the refusal says so at the place
pub record IsFault (h : Hierarchy) (n : NameId) (s : Span) (r : Refusal) : Type 0 where
  pub cause : HierRefused
  pub fault_is : fault h n ≡ Some cause
  pub refusal : r ≡ record { span = s; what = told h n cause }

-- the first name of a list that can't stand there, and the refusal says so at the place
pub record IsFirstFault (h : Hierarchy) (ns : List NameId) (s : Span) (r : Refusal) : Type 0 where
  pub at : ℕ
  pub within : at < length ns
  pub cause : IsFault h (slice_index_or ns at nameless) s r
  pub before : NoFault h ns at

-- the item's name stands in a list, and it stands at another carrier
pub record IsElsewhere (h : Hierarchy) (carrier : NameId) (i : Item) (r : Refusal) : Type 0 where
  pub usable : fault h i.factory.name ≡ None
  pub other : ¬ (i.carrier.name.0 ≡ carrier.0)
  pub refusal : r ≡ record { span = i.carrier.span; what = what.NotCarrier i.carrier.name }

-- an item at the carrier that may stand in a list
pub record IsItem (h : Hierarchy) (carrier : NameId) (i : Item) : Type 0 where
  pub usable : fault h i.factory.name ≡ None
  pub own : i.carrier.name.0 ≡ carrier.0

abbrev pub AreItems : Hierarchy → NameId → List Item → Type 0
AreItems h carrier [] = Unit {0}
AreItems h carrier (i ∷ is) = IsItem h carrier i × AreItems h carrier is

-- why an item isn't one
abbrev pub ItemCause : Hierarchy → NameId → Item → Refusal → Type 0
ItemCause h carrier i r = IsFault h i.factory.name i.factory.span r ⊎ IsElsewhere h carrier i r

-- the first that isn't one
pub data ItemsCause (h : Hierarchy) (carrier : NameId) : List Item → Refusal → Type 0 where
  item_here : {i : Item} {is : List Item} {r : Refusal} → ItemCause h carrier i r → ItemsCause h carrier (i ∷ is) r
  item_later : {i : Item} {is : List Item} {r : Refusal} → IsItem h carrier i → ItemsCause h carrier is r → ItemsCause h carrier (i ∷ is) r
