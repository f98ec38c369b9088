-- A hierarchy as the list of what was declared, ended and given, and its sets computed anew from that list.
use Rattle.std.specs.Prelude.{◌≡◌, ℕ, ◌<◌, false, List, [], ◌∷◌, length, fold, Option, None, slice_index_or}
use Rattle.hb_base.specs.declared.name_id.NameId.{NameId}
use Rattle.hb_sets.specs.Set.{Set, empty}
use Rattle.hb_order.specs.declared.ids.FactoryId.{FactoryId}
use Rattle.hb_order.specs.declared.ids.StructId.{StructId}
use Rattle.hb_tree.specs.declared.leaves.ConstId.{ConstId}
use Rattle.hb_hier.specs.Hierarchy.{Hierarchy, nothing, known_as, ended, brought}
use Rattle.hb_hier.specs.Declaring.{NoFault, with_mixin, with_factory, with_structure, with_ending}
use Rattle.hb_hier.specs.Giving.{giving_fault, required_or_none, provided_or_none, with_giving}

-- one call that was accepted: its name, its items and its fields; the end of a section; an instance
pub data Act : Type 0 where
  mixin : NameId → List NameId → List NameId → Act
  factory : NameId → List NameId → List NameId → Act
  structure : NameId → List NameId → Act
  ending : FactoryId → Set → Act
  giving : ConstId → List (Option StructId) → NameId → Act

-- what the call adds
abbrev pub after : Hierarchy → Act → Hierarchy
after h (mixin n items fields) = with_mixin h n items fields
after h (factory n items fields) = with_factory h n items fields
after h (structure n items) = with_structure h n items
after h (ending f provided) = with_ending h f provided
after h (giving k binders n) = with_giving h k binders (provided_or_none h (known_as h n))

-- the hierarchy of a list of calls
abbrev pub hierarchy_of : List Act → Hierarchy
hierarchy_of acts = fold after nothing acts

-- the name is new, and each item may stand in a list
abbrev pub IsNew : Hierarchy → NameId → List NameId → Type 0
IsNew h n items = (known_as h n ≡ None) × NoFault h items (length items)

-- what an accepted call met
abbrev pub IsTaken : Hierarchy → Act → Type 0
IsTaken h (mixin n items fields) = IsNew h n items
IsTaken h (factory n items fields) = IsNew h n items
IsTaken h (structure n items) = IsNew h n items
IsTaken h (ending f provided) = (f.0 < length h.factories) × (ended h.endings f.0 ≡ false)
IsTaken h (giving k binders n) = giving_fault h n ≡ None

abbrev pub AreTaken : Hierarchy → List Act → Type 0
AreTaken h [] = Unit {0}
AreTaken h (a ∷ acts) = IsTaken h a × AreTaken (after h a) acts

-- what h keeps for the declaration is what its items bring in h
abbrev pub KeepsItsSet : Hierarchy → Act → Type 0
KeepsItsSet h (mixin n items fields) = required_or_none h (known_as h n) ≡ brought h items
KeepsItsSet h (factory n items fields) = required_or_none h (known_as h n) ≡ brought h items
KeepsItsSet h (structure n items) = provided_or_none h (known_as h n) ≡ brought h items
KeepsItsSet h (ending f provided) = Unit {0}
KeepsItsSet h (giving k binders n) = Unit {0}

-- in place of what isn't there
abbrev pub no_act : Act
no_act = ending (record { 0 = 0 }) empty

-- The law: what was kept for each declaration is what its list brings, computed anew after all later calls.
abbrev pub SetsAreComputedAnew : Type 0
SetsAreComputedAnew = (acts : List Act) → AreTaken nothing acts → (i : ℕ) → i < length acts → KeepsItsSet (hierarchy_of acts) (slice_index_or acts i no_act)
