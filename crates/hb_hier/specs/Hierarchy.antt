-- A hierarchy: what was declared, ended and given, each as a list in its order.
use Rattle.std.specs.Prelude.{ℕ, ◌<◌, Bool, ◌==◌, List, [], length, map, fold, position, Option, None, Some, slice_get, slice_index_or}
use Rattle.std.specs.List.{list_any, position_or_len}
use Rattle.std.specs.Option.{option_map}
use Rattle.hb_base.specs.declared.name_id.NameId.{NameId}
use Rattle.hb_sets.specs.Set.{Set, empty, insert, union}
use Rattle.hb_order.specs.declared.ids.FactoryId.{FactoryId}
use Rattle.hb_givings.specs.Givings.{Given}
use Rattle.hb_hier.specs.declared.known.Known.{Known}
use Rattle.hb_hier.specs.declared.known.Known.TheVariants.{Mixin, Factory, Structure}

-- a mixin or a factory: its name, the mixins that its `of` list brought, and the names of its fields
pub record Declared : Type 0 where
  pub name : NameId
  pub required : Set
  pub fields : List NameId

-- the end of a factory's section: the mixins that its instances there gave
pub record Ended : Type 0 where
  pub factory : FactoryId
  pub provided : Set

-- a structure: its name, and the mixins that its list brought
pub record Grouped : Type 0 where
  pub name : NameId
  pub mixins : Set

-- the lists, and the one order in which mixins and factories were declared
pub record Hierarchy : Type 0 where
  pub order : List Known
  pub mixins : List Declared
  pub factories : List Declared
  pub endings : List Ended
  pub structures : List Grouped
  pub givings : List Given

-- how many mixins, factories and structures there may be, each
abbrev pub MOST : ℕ
MOST = 1024

-- the hierarchy in which nothing was declared
abbrev pub nothing : Hierarchy
nothing = record { order = []; mixins = []; factories = []; endings = []; structures = []; givings = [] }

-- the number was declared
abbrev pub IsDeclared : Hierarchy → Known → Type 0
IsDeclared h (Mixin m) = m.0 < length h.mixins
IsDeclared h (Factory f) = f.0 < length h.factories
IsDeclared h (Structure s) = s.0 < length h.structures

-- its name; none where it wasn't declared
abbrev pub name_of : Hierarchy → Known → Option NameId
name_of h (Mixin m) = option_map (λ d. d.name) (slice_get h.mixins m.0)
name_of h (Factory f) = option_map (λ d. d.name) (slice_get h.factories f.0)
name_of h (Structure s) = option_map (λ d. d.name) (slice_get h.structures s.0)

-- in place of what isn't there
abbrev pub nameless : NameId
nameless = record { 0 = 0 }

abbrev pub undeclared : Declared
undeclared = record { name = record { 0 = 0 }; required = empty; fields = [] }

abbrev pub ungrouped : Grouped
ungrouped = record { name = record { 0 = 0 }; mixins = empty }

abbrev pub unended : Ended
unended = record { factory = record { 0 = 0 }; provided = empty }

-- the names of its fields; a structure has none
abbrev pub fields_of : Hierarchy → Known → List NameId
fields_of h (Mixin m) = (slice_index_or h.mixins m.0 undeclared).fields
fields_of h (Factory f) = (slice_index_or h.factories f.0 undeclared).fields
fields_of h (Structure s) = []

-- the factory's section was ended
abbrev pub ended : List Ended → ℕ → Bool
ended endings f = list_any (λ e. e.factory.0 == f) endings

-- what the first ending of the factory's section provides; nothing before it
abbrev pub provision : List Ended → ℕ → Set
provision endings f = (slice_index_or endings (position_or_len (λ e. e.factory.0 == f) endings) unended).provided

-- the mixins that each structure has, in the order of declaration
abbrev pub sets_of : List Grouped → List Set
sets_of structures = map (λ s. s.mixins) structures

abbrev pub sets : Hierarchy → List Set
sets h = sets_of h.structures

-- the mixins that a mixin or factory requires
abbrev pub required : Hierarchy → Known → Set
required h (Mixin m) = (slice_index_or h.mixins m.0 undeclared).required
required h (Factory f) = (slice_index_or h.factories f.0 undeclared).required
required h (Structure s) = empty

-- the mixins that it provides: a mixin itself, a factory what its section gave, a structure its own
abbrev pub provided : Hierarchy → Known → Set
provided h (Mixin m) = insert empty m.0
provided h (Factory f) = provision h.endings f.0
provided h (Structure s) = (slice_index_or h.structures s.0 ungrouped).mixins

-- what it stands for in a list: what it requires together with what it provides
abbrev pub full : Hierarchy → Known → Set
full h k = union (required h k) (provided h k)

-- the first of two answers that is there
abbrev pub first_of : Option Known → Option Known → Option Known
first_of None other = other
first_of (Some k) other = Some k

-- what was declared under a name
abbrev pub known_as : Hierarchy → NameId → Option Known
known_as h n =
    first_of (option_map (λ i. Mixin (record { 0 = i })) (position (λ d. d.name.0 == n.0) h.mixins))
    (first_of (option_map (λ i. Factory (record { 0 = i })) (position (λ d. d.name.0 == n.0) h.factories))
    (option_map (λ i. Structure (record { 0 = i })) (position (λ d. d.name.0 == n.0) h.structures)))

-- the mixins that one name of a list brings
abbrev pub full_or_none : Hierarchy → Option Known → Set
full_or_none h None = empty
full_or_none h (Some k) = full h k

-- the mixins that a list of names brings
abbrev pub brought : Hierarchy → List NameId → Set
brought h items = fold (λ s n. union s (full_or_none h (known_as h n))) empty items
