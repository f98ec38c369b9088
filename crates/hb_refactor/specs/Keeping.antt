-- Whether a rebuilt library keeps what clients of the old one had.
use Rattle.std.specs.Prelude.{◌≡◌, ℕ, zero, suc, ◌<◌, Bool, true, false, ◌&&◌, if◌then◌else◌, List, [], ◌∷◌, length, position, Option, None, Some, slice_get}
use Rattle.std.specs.Option.{option_map}
use Rattle.std.specs.Str.{bytes_eq}
use Rattle.hb_base.specs.declared.name_id.NameId.{NameId}
use Rattle.hb_hier.specs.Hierarchy.{Hierarchy, name_of, known_as, ended, fields_of, required, provided, full, full_or_none}
use Rattle.hb_hier.specs.declared.known.Known.{Known}
use Rattle.hb_hier.specs.declared.known.Known.TheVariants.{Mixin, Factory, Structure}
use Rattle.hb_order.specs.declared.ids.StructId.{StructId}
use Rattle.hb_refactor.specs.declared.error.RefactorRefused.{RefactorRefused}
use Rattle.hb_refactor.specs.declared.error.RefactorRefused.TheVariants.{LostName, FieldsChanged, NeedsMore, GivesLess, StructureLost, StructureChanged}
use Rattle.hb_sets.specs.Set.{Set, empty, contains, union, difference, Inside, IsFirstOutside}

-- the old library and the new one, each with the texts of its names
pub record Both : Type 0 where
  pub old_names : List (List ℕ)
  pub old : Hierarchy
  pub new_names : List (List ℕ)
  pub new : Hierarchy

-- the number of a text
abbrev pub number_in : List (List ℕ) → Option (List ℕ) → Option NameId
number_in N None = None
number_in N (Some text) = option_map (λ i. record { 0 = i }) (position (bytes_eq text) N)

-- what a number stands for
abbrev pub known_of : Hierarchy → Option NameId → Option Known
known_of h None = None
known_of h (Some n) = known_as h n

-- what the new library has under the text of an old name
abbrev pub renewed : Both → Option NameId → Option Known
renewed b None = None
renewed b (Some n) = known_of b.new (number_in b.new_names (slice_get b.old_names n.0))

-- what may stand in a list: a mixin, or a factory whose section was ended
abbrev pub usable_in : Hierarchy → Known → Bool
usable_in h (Mixin m) = true
usable_in h (Factory f) = ended h.endings f.0
usable_in h (Structure s) = false

abbrev pub only_usable : Hierarchy → Option Known → Option Known
only_usable h None = None
only_usable h (Some k) = if usable_in h k then Some k else None

-- the mixin or ended factory that the new library has under the text of an old name
abbrev pub usable : Both → Option NameId → Option Known
usable b n = only_usable b.new (renewed b n)

-- what an old mixin brings in the new library; a lost one brings nothing
abbrev pub brought_by : Both → ℕ → Set
brought_by b m = full_or_none b.new (usable b (name_of b.old (Mixin (record { 0 = m }))))

-- what the mixins of an old set bring, of those below n; and of all
abbrev pub brought_below : Both → Set → ℕ → Set
brought_below b x zero = empty
brought_below b x (suc n) = if contains x n then union (brought_below b x n) (brought_by b n) else brought_below b x n

abbrev pub translated : Both → Set → Set
translated b x = brought_below b x (length b.old.mixins)

-- field names have the same texts in order
abbrev pub same_text : Option (List ℕ) → Option (List ℕ) → Bool
same_text (Some s) (Some t) = bytes_eq s t
same_text _ _ = false

abbrev pub same_fields : Both → List NameId → List NameId → Bool
same_fields b [] [] = true
same_fields b (m ∷ ms) (n ∷ ns) = same_text (slice_get b.old_names m.0) (slice_get b.new_names n.0) && same_fields b ms ns
same_fields b _ _ = false

-- the new k' requires no more than the old k, and gives no less
abbrev pub NeedsNoMore : Both → Known → Known → Type 0
NeedsNoMore b k k' = Inside (required b.new k') (translated b (required b.old k))

abbrev pub GivesNoLess : Both → Known → Known → Type 0
GivesNoLess b k k' = Inside (translated b (provided b.old k)) (union (translated b (required b.old k)) (full b.new k'))

-- an old mixin or ended factory is one with the same fields, which requires no more and gives no less
pub record KeepsUsable (b : Both) (k : Known) : Type 0 where
  pub new : Known
  pub found : usable b (name_of b.old k) ≡ Some new
  pub fields : same_fields b (fields_of b.old k) (fields_of b.new new) ≡ true
  pub needs : NeedsNoMore b k new
  pub gives : GivesNoLess b k new

abbrev pub Keeps : Both → Known → Type 0
Keeps b k = usable_in b.old k ≡ true → KeepsUsable b k

-- why it isn't: e is the first of these to fail
abbrev pub Lost : Both → Known → RefactorRefused → Type 0
Lost b k (LostName n) = (usable_in b.old k ≡ true) × (name_of b.old k ≡ Some n) × (usable b (Some n) ≡ None)
Lost b k (FieldsChanged n) =
    (usable_in b.old k ≡ true) × (name_of b.old k ≡ Some n) × (k' : Known) × (usable b (Some n) ≡ Some k') × (same_fields b (fields_of b.old k) (fields_of b.new k') ≡ false)
Lost b k (NeedsMore n m) =
    (usable_in b.old k ≡ true) × (name_of b.old k ≡ Some n) × (k' : Known) × (usable b (Some n) ≡ Some k') × (same_fields b (fields_of b.old k) (fields_of b.new k') ≡ true) × IsFirstOutside (required b.new k') (translated b (required b.old k)) m.0
Lost b k (GivesLess n m) =
    (usable_in b.old k ≡ true) × (name_of b.old k ≡ Some n) × (k' : Known) × (usable b (Some n) ≡ Some k') × (same_fields b (fields_of b.old k) (fields_of b.new k') ≡ true) × NeedsNoMore b k k' × IsFirstOutside (translated b (provided b.old k)) (union (translated b (required b.old k)) (full b.new k')) m.0
Lost b k (StructureLost s) = ⊥
Lost b k (StructureChanged s m) = ⊥

-- the mixins that are in just one of two sets
abbrev pub apart : Set → Set → Set
apart x y = union (difference x y) (difference y x)

-- an old structure is one with the mixins that its old ones bring
pub record KeepsStructure (b : Both) (s : StructId) : Type 0 where
  pub new : StructId
  pub found : renewed b (name_of b.old (Structure s)) ≡ Some (Structure new)
  pub same : Inside (apart (translated b (provided b.old (Structure s))) (provided b.new (Structure new))) empty

-- why it isn't
abbrev pub LostStructure : Both → StructId → RefactorRefused → Type 0
LostStructure b s (StructureLost t) = (t ≡ s) × ((s' : StructId) → renewed b (name_of b.old (Structure s)) ≡ Some (Structure s') → ⊥)
LostStructure b s (StructureChanged t m) =
    (t ≡ s) × (s' : StructId) × (renewed b (name_of b.old (Structure s)) ≡ Some (Structure s')) × IsFirstOutside (apart (translated b (provided b.old (Structure s))) (provided b.new (Structure s'))) empty m.0
LostStructure b s _ = ⊥

-- the first n of the old mixins and factories, or structures, are kept
abbrev pub AllKept : Both → ℕ → Type 0
AllKept b n = (i : ℕ) (k : Known) → i < n → slice_get b.old.order i ≡ Some k → Keeps b k

abbrev pub AllStructuresKept : Both → ℕ → Type 0
AllStructuresKept b n = (i : ℕ) → i < n → KeepsStructure b (record { 0 = i })

-- the first mixin or factory that isn't kept
pub record FirstLost (b : Both) (e : RefactorRefused) : Type 0 where
  pub at : ℕ
  pub k : Known
  pub stands : slice_get b.old.order at ≡ Some k
  pub before : AllKept b at
  pub lost : Lost b k e

-- the first structure that isn't kept
pub record FirstLostStructure (b : Both) (e : RefactorRefused) : Type 0 where
  pub at : ℕ
  pub within : at < length b.old.structures
  pub before : AllStructuresKept b at
  pub lost : LostStructure b (record { 0 = at }) e

-- the new library keeps all: the mixins and factories, of which there are fewer than 65,536, then the
-- structures
pub record Equivalent (b : Both) : Type 0 where
  pub known : AllKept b 65536
  pub structures : AllStructuresKept b (length b.old.structures)

-- the first that isn't kept
abbrev pub FirstFault : Both → RefactorRefused → Type 0
FirstFault b (StructureLost s) = AllKept b 65536 × FirstLostStructure b (StructureLost s)
FirstFault b (StructureChanged s m) = AllKept b 65536 × FirstLostStructure b (StructureChanged s m)
FirstFault b e = FirstLost b e
