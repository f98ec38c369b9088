-- What was given to each carrier, and when a giving is refused.
use Rattle.std.specs.Prelude.{◌≡◌, ℕ, ◌<◌, if◌then◌else◌, List, [], ◌∷◌, ◌++◌, length, Option, None, Some, slice_index_or}
use Rattle.hb_base.specs.declared.name_id.NameId.{NameId}
use Rattle.hb_sets.specs.Set.{Set, In, empty}
use Rattle.hb_order.specs.declared.ids.StructId.{StructId}
use Rattle.hb_order.specs.Heirs.{IsHeir}
use Rattle.hb_order.specs.Givings.{Giving, given, condition, binder}
use Rattle.hb_tree.specs.declared.leaves.ConstId.{ConstId}
use Rattle.hb_hier.specs.declared.error.HierRefused.{HierRefused}
use Rattle.hb_hier.specs.declared.error.HierRefused.TheVariants.{UnknownFactory, Unfinished, MissingMixin, Unmet, NoMemory}
use Rattle.hb_hier.specs.declared.known.Known.{Known}
use Rattle.hb_hier.specs.declared.known.Known.TheVariants.{Mixin, Factory, Structure}
use Rattle.hb_givings.specs.Givings.{Given, ungiven, givings_at}
use Rattle.hb_hier.specs.Hierarchy.{Hierarchy, known_as, ended, sets, required, provided}

-- each structure of the binders is declared before the n-th
abbrev pub BindersBelow : ℕ → List (Option StructId) → Type 0
BindersBelow n binders = (i t : ℕ) → binder binders i ≡ Some t → t < n

-- so is each structure of the binders of each giving
abbrev pub AllBindersBelow : ℕ → List Given → Type 0
AllBindersBelow n gs = (i : ℕ) → i < length gs → BindersBelow n (slice_index_or gs i ungiven).giving.binders

-- a condition is met by binders: they have an heir of each structure that it asks, at its place
abbrev pub Met : List Set → List (Option StructId) → List (Option StructId) → Type 0
Met h binders asked = (i t : ℕ) → binder asked i ≡ Some t → (s : ℕ) × (binder binders i ≡ Some s) × IsHeir h s t

-- at one place
abbrev pub MetAt : List Set → List (Option StructId) → List (Option StructId) → ℕ → Type 0
MetAt h binders asked i = (t : ℕ) → binder asked i ≡ Some t → (s : ℕ) × (binder binders i ≡ Some s) × IsHeir h s t

-- what is given at the carriers after one more giving
abbrev pub with_giving : Hierarchy → ConstId → List (Option StructId) → Set → Hierarchy
with_giving h k binders gives = record h {
  givings = h.givings ++ record { carrier = k; giving = record { binders = binders; gives = gives } } ∷ [];
}

-- a name that can be given: a mixin, or a factory whose section is ended; else why not
abbrev pub giving_fault_as : Hierarchy → NameId → Option Known → Option HierRefused
giving_fault_as h n None = Some (UnknownFactory n)
giving_fault_as h n (Some (Mixin m)) = None
giving_fault_as h n (Some (Factory f)) = if ended h.endings f.0 then None else Some (Unfinished n)
giving_fault_as h n (Some (Structure s)) = Some (UnknownFactory n)

abbrev pub giving_fault : Hierarchy → NameId → Option HierRefused
giving_fault h n = giving_fault_as h n (known_as h n)

-- what a name provides and requires
abbrev pub provided_or_none : Hierarchy → Option Known → Set
provided_or_none h None = empty
provided_or_none h (Some k) = provided h k

abbrev pub required_or_none : Hierarchy → Option Known → Set
required_or_none h None = empty
required_or_none h (Some k) = required h k

-- the carrier was given m, under a condition that the binders meet
abbrev pub IsReady : List Set → List Giving → List (Option StructId) → ℕ → Type 0
IsReady h gs binders m = In (given gs) m × Met h binders (condition gs m)

-- m is the first of x that isn't ready
pub record IsFirstUnready (h : List Set) (gs : List Giving) (binders : List (Option StructId)) (x : Set) (m : ℕ) : Type 0 where
  pub member : In x m
  pub unready : ¬ (IsReady h gs binders m)
  pub before : (k : ℕ) → k < m → In x k → IsReady h gs binders k

-- each of x is ready
abbrev pub AllReady : List Set → List Giving → List (Option StructId) → Set → Type 0
AllReady h gs binders x = (m : ℕ) → In x m → IsReady h gs binders m

-- where d was given, the binders meet its condition
abbrev pub MetIfGiven : List Set → List Giving → List (Option StructId) → ℕ → Type 0
MetIfGiven h gs binders d = In (given gs) d → Met h binders (condition gs d)

-- each mixin of x that was given is met
abbrev pub AllMetIfGiven : List Set → List Giving → List (Option StructId) → Set → Type 0
AllMetIfGiven h gs binders x = (d : ℕ) → In x d → MetIfGiven h gs binders d

-- d is the first of x that was given and isn't met
pub record IsFirstUnmet (h : List Set) (gs : List Giving) (binders : List (Option StructId)) (x : Set) (d : ℕ) : Type 0 where
  pub member : In x d
  pub unmet : ¬ (MetIfGiven h gs binders d)
  pub before : (k : ℕ) → k < d → In x k → MetIfGiven h gs binders k

-- what each mixin that would be new requires is met, as far as it was given
abbrev pub NewAreMet : Hierarchy → List Giving → List (Option StructId) → Set → ℕ → Type 0
NewAreMet h gs binders x n = (m : ℕ) → m < n → In x m → ¬ (In (given gs) m) → AllMetIfGiven (sets h) gs binders (required h (Mixin (record { 0 = m })))

-- m is the first new mixin of x that requires a given mixin which isn't met, and d the first such
pub record IsFirstUnmetPair (h : Hierarchy) (gs : List Giving) (binders : List (Option StructId)) (x : Set) (m d : ℕ) : Type 0 where
  pub member : In x m
  pub new : ¬ (In (given gs) m)
  pub unmet : IsFirstUnmet (sets h) gs binders (required h (Mixin (record { 0 = m }))) d
  pub before : NewAreMet h gs binders x m

-- a giving of the name at the carrier under these binders is allowed
pub record IsGivingAllowed (h : Hierarchy) (k : ConstId) (binders : List (Option StructId)) (n : NameId) : Type 0 where
  pub usable : giving_fault h n ≡ None
  pub ready : AllReady (sets h) (givings_at h.givings k) binders (required_or_none h (known_as h n))
  pub met : (m : ℕ) → NewAreMet h (givings_at h.givings k) binders (provided_or_none h (known_as h n)) m

-- why it isn't, with the first mixin of each cause
abbrev pub GivingRefusal : Hierarchy → ConstId → List (Option StructId) → NameId → HierRefused → Type 0
GivingRefusal h k binders n (UnknownFactory x) = giving_fault h n ≡ Some (UnknownFactory x)
GivingRefusal h k binders n (Unfinished x) = giving_fault h n ≡ Some (Unfinished x)
GivingRefusal h k binders n (MissingMixin m) =
    (giving_fault h n ≡ None)
    × IsFirstUnready (sets h) (givings_at h.givings k) binders (required_or_none h (known_as h n)) m.0
GivingRefusal h k binders n (Unmet m d) =
    (giving_fault h n ≡ None)
    × AllReady (sets h) (givings_at h.givings k) binders (required_or_none h (known_as h n))
    × IsFirstUnmetPair h (givings_at h.givings k) binders (provided_or_none h (known_as h n)) m.0 d.0
GivingRefusal h k binders n NoMemory = Unit {0}
GivingRefusal h k binders n _ = ⊥
