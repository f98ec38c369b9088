-- What the adding calls add, and when they are refused.
use Rattle.std.specs.Prelude.{◌≡◌, ℕ, ◌<◌, if◌then◌else◌, List, [], ◌∷◌, ◌++◌, length, Option, None, Some, slice_index_or, IsTrue}
use Rattle.hb_base.specs.declared.count.Count.{Count}
use Rattle.hb_base.specs.declared.count.Count.TheVariants.{Structures}
use Rattle.hb_base.specs.declared.name_id.NameId.{NameId}
use Rattle.hb_sets.specs.Set.{Set, empty}
use Rattle.hb_order.specs.declared.ids.FactoryId.{FactoryId}
use Rattle.hb_order.specs.Allowed.{IsAllowed, IsFirstSame, NoneSame, IsFirstAbove, NoneAbove, IsFirstMissing}
use Rattle.hb_hier.specs.declared.error.HierRefused.{HierRefused}
use Rattle.hb_hier.specs.declared.error.HierRefused.TheVariants.{Finished, UnknownFactory, Unfinished, EmptyStructure, SameStructure, AboveDeclared, MissingJoin, TooMany, NoMemory}
use Rattle.hb_hier.specs.declared.known.Known.{Known}
use Rattle.hb_hier.specs.declared.known.Known.TheVariants.{Mixin, Factory, Structure}
use Rattle.hb_hier.specs.Hierarchy.{Hierarchy, MOST, nameless, known_as, name_of, ended, sets, brought}

-- a mixin with these items and fields, after all others
abbrev pub with_mixin : Hierarchy → NameId → List NameId → List NameId → Hierarchy
with_mixin h name items fields = record h {
  order = h.order ++ Mixin (record { 0 = length h.mixins }) ∷ [];
  mixins = h.mixins ++ record { name = name; required = brought h items; fields = fields } ∷ [];
}

-- a factory
abbrev pub with_factory : Hierarchy → NameId → List NameId → List NameId → Hierarchy
with_factory h name items fields = record h {
  order = h.order ++ Factory (record { 0 = length h.factories }) ∷ [];
  factories = h.factories ++ record { name = name; required = brought h items; fields = fields } ∷ [];
}

-- a structure
abbrev pub with_structure : Hierarchy → NameId → List NameId → Hierarchy
with_structure h name items = record h { structures = h.structures ++ record { name = name; mixins = brought h items } ∷ [] }

-- the end of a factory's section
abbrev pub with_ending : Hierarchy → FactoryId → Set → Hierarchy
with_ending h f provided = record h { endings = h.endings ++ record { factory = f; provided = provided } ∷ [] }

-- why it isn't ended: it was
abbrev pub EndRefusal : Hierarchy → FactoryId → HierRefused → Type 0
EndRefusal h f (Finished n) = IsTrue (ended h.endings f.0) × (name_of h (Factory f) ≡ Some n)
EndRefusal h f NoMemory = Unit {0}
EndRefusal h f _ = ⊥

-- why a name can't stand in a list: it is nothing, or a factory whose section isn't ended
abbrev pub fault_as : Hierarchy → NameId → Option Known → Option HierRefused
fault_as h n None = Some (UnknownFactory n)
fault_as h n (Some (Mixin m)) = None
fault_as h n (Some (Factory f)) = if ended h.endings f.0 then None else Some (Unfinished n)
fault_as h n (Some (Structure s)) = None

abbrev pub fault : Hierarchy → NameId → Option HierRefused
fault h n = fault_as h n (known_as h n)

-- the first n names of a list may stand there
abbrev pub NoFault : Hierarchy → List NameId → ℕ → Type 0
NoFault h items n = (k : ℕ) → k < n → fault h (slice_index_or items k nameless) ≡ None

-- e is the fault of the first name that may not
pub record IsFirstFault (h : Hierarchy) (items : List NameId) (e : HierRefused) : Type 0 where
  pub at : ℕ
  pub within : at < length items
  pub fault_is : fault h (slice_index_or items at nameless) ≡ Some e
  pub before : NoFault h items at

-- why a mixin or a factory, of which there are `held`, isn't added
abbrev pub DeclareRefusal : Hierarchy → List NameId → Count → ℕ → HierRefused → Type 0
DeclareRefusal h items count held (UnknownFactory n) = IsFirstFault h items (UnknownFactory n)
DeclareRefusal h items count held (Unfinished n) = IsFirstFault h items (Unfinished n)
DeclareRefusal h items count held (TooMany what) = (what ≡ count) × NoFault h items (length items) × (held ≡ MOST)
DeclareRefusal h items count held NoMemory = Unit {0}
DeclareRefusal h items count held _ = ⊥

-- why a structure with the set x isn't added after those of h
abbrev pub SetRefusal : List Set → Set → HierRefused → Type 0
SetRefusal h x EmptyStructure = x ≡ empty
SetRefusal h x (SameStructure s) = ¬ (x ≡ empty) × IsFirstSame h x s.0
SetRefusal h x (AboveDeclared s) = ¬ (x ≡ empty) × NoneSame h x × IsFirstAbove h x s.0
SetRefusal h x (MissingJoin a b j) = ¬ (x ≡ empty) × NoneAbove h x × IsFirstMissing h x a.0 b.0 j.0
SetRefusal h x (TooMany what) = IsAllowed h x × (what ≡ Structures) × (length h ≡ MOST)
SetRefusal h x _ = ⊥

-- why a structure with these items isn't added
abbrev pub StructureRefusal : Hierarchy → List NameId → HierRefused → Type 0
StructureRefusal h items (UnknownFactory n) = IsFirstFault h items (UnknownFactory n)
StructureRefusal h items (Unfinished n) = IsFirstFault h items (Unfinished n)
StructureRefusal h items NoMemory = Unit {0}
StructureRefusal h items e = NoFault h items (length items) × SetRefusal (sets h) (brought h items) e
