-- Why a structure is refused. Causes stand in the order of the tests, each with what the tests before it found.
use Rattle.std.specs.Prelude.{◌≡◌, ℕ, false, List, [], ◌∷◌, length, None, slice_get}
use Rattle.hb_base.specs.declared.count.Count.{Count}
use Rattle.hb_base.specs.declared.name_id.NameId.{NameId}
use Rattle.hb_base.specs.declared.span.Span.{Span}
use Rattle.hb_calculus.specs.Budget.{Budget}
use Rattle.hb_calculus.specs.Declarations.{Decl}
use Rattle.hb_env.specs.declared.entry.Head.{Head}
use Rattle.hb_env.specs.declared.entry.Head.TheVariants as heads
use Rattle.hb_env.specs.declared.entry.Places.{Places}
use Rattle.hb_env.specs.declared.refusal.Refusal.{Refusal}
use Rattle.hb_env.specs.declared.refusal.What.TheVariants.{NotYet, TooMany, Redeclared, SectionOpen, NoMemory}
use Rattle.hb_hier.specs.Declaring.{NoFault, SetRefusal, StructureRefusal, with_structure}
use Rattle.hb_hier.specs.Hierarchy.{Hierarchy, known_as, sets, brought}
use Rattle.hb_hier.specs.declared.error.HierRefused.{HierRefused}
use Rattle.hb_items.specs.Comparing.{bad_at, IsOther}
use Rattle.hb_items.specs.Items.{told, AreItems, ItemsCause, IsFirstFault}
use Rattle.hb_order.specs.Allowed.{IsAllowed}
use Rattle.hb_raw.specs.Sentence.{Act, structure}
use Rattle.hb_raw.specs.declared.word.Item.{Item}
use Rattle.hb_raw.specs.declared.word.Word.{Word}
use Rattle.hb_sets.specs.Set.{Set}
use Rattle.hb_step.specs.Adding.{Stops}
use Rattle.hb_step.specs.Counting.{ComeToPass}
use Rattle.hb_step.specs.Naming.{IsReserved, IsTaken, IsRedeclared, IsUnfit}
use Rattle.hb_step.specs.Reserved.{is_kept, is_reserved, is_reserved_part}
use Rattle.hb_tables.specs.Maps.{Maps}
use Rattle.hb_world.specs.Taking.{Extends, factory_names}
use Rattle.hb_world.specs.Worlds.{Background}
use Rattle.hb_structure.specs.Making.{IsShape, IsMade}

-- ITS NAME

-- the name is kept neither for generated names nor for their parts
abbrev pub IsUnkept : Background → NameId → Type 0
IsUnkept w n =
    (is_kept is_reserved (slice_get w.names n.0) ≡ false) × (is_kept is_reserved_part (slice_get w.names n.0) ≡ false)

-- no section is open, and the name can be declared
pub record MayBeNamed (E : List Decl) (w : Background) (n : NameId) : Type 0 where
  pub outside : w.section ≡ None
  pub unkept : IsUnkept w n
  pub new : ¬ (IsTaken E w.hier n)

-- a section is open at the place s of the command, or the name, at the place p, can't be declared
pub data NameCause (E : List Decl) (w : Background) (s : Span) (n : NameId) (p : Span) (r : Refusal) : Type 0 where
  in_section : ¬ (w.section ≡ None) → r.span ≡ s → r.what ≡ SectionOpen → NameCause E w s n p r
  kept : w.section ≡ None → IsReserved is_reserved w.names n p r → NameCause E w s n p r
  kept_part :
      w.section ≡ None → is_kept is_reserved (slice_get w.names n.0) ≡ false → IsReserved is_reserved_part w.names n p r
      → NameCause E w s n p r
  taken : w.section ≡ None → IsUnkept w n → IsRedeclared E w.hier n p r → NameCause E w s n p r

-- ITS SET

-- the set stands against the declared structures as the hierarchy says, and the refusal says so at the place
pub record SetCause (h : Hierarchy) (n : NameId) (x : Set) (p : Span) (r : Refusal) : Type 0 where
  pub cause : HierRefused
  pub stands_against : SetRefusal (sets h) x cause
  pub refusal : r ≡ record { span = p; what = told h n cause }

-- WHAT IT MAKES

-- a name of these declarations is taken, or the structure's own, or stands twice in them, and the refusal says so at
-- the place
pub record UnfitCause (E : List Decl) (h : Hierarchy) (n : NameId) (ds : List Decl) (p : Span) (r : Refusal) : Type 0 where
  pub name : NameId
  pub unfit : IsUnfit E h (n.0 ∷ []) ds name
  pub refusal : r ≡ record { span = p; what = Redeclared name }

-- there would be too many names (that it is their count isn't said here), or memory is wanting
pub data WantCause (p : Span) (r : Refusal) : Type 0 where
  too_many_names : (c : Count) → r ≡ record { span = p; what = TooMany c } → WantCause p r
  no_memory : r ≡ record { span = p; what = NoMemory } → WantCause p r

-- the records, operations and coercions aren't made, where N are the names
pub data ShapeCause (N : List (List ℕ)) (E : List Decl) (h : Hierarchy) (T : Maps) (n : NameId) (x : Set) (p : Span) (r : Refusal) : Type 0 where
  shape_unfit :
      (ds : List Decl) → IsShape N E h T n x ds → UnfitCause E h n ds p r → ShapeCause N E h T n x p r
  shape_wants : WantCause p r → ShapeCause N E h T n x p r

-- the structure isn't added to the hierarchy: its name is known there, or the hierarchy says why
pub data GroupCause (h : Hierarchy) (n : NameId) (ns : List NameId) (p : Span) (r : Refusal) : Type 0 where
  name_known : ¬ (known_as h n ≡ None) → r ≡ record { span = p; what = Redeclared n } → GroupCause h n ns p r
  not_added :
      (e : HierRefused) → StructureRefusal h ns e → r ≡ record { span = p; what = told h n e } → GroupCause h n ns p r

-- nothing is made
pub data MakeCause (E : List Decl) (w : Background) (n : NameId) (ns : List NameId) (x : Set) (p : Span) (r : Refusal) : Type 0 where
  no_shape :
      (N : List (List ℕ)) → Extends w.names N → ShapeCause N E w.hier w.tables n x p r → MakeCause E w n ns x p r
  not_grouped : GroupCause w.hier n ns p r → MakeCause E w n ns x p r
  wants : WantCause p r → MakeCause E w n ns x p r

-- the declarations aren't added, in a hierarchy that has the structure: a name is unfit, they come to pass a count, or
-- the kernel refuses one
pub data AddCause (L : Budget) (E : List Decl) (h : Hierarchy) (n : NameId) (ds : List Decl) (p : Span) (r : Refusal) : Type 0 where
  made_unfit : UnfitCause E h n ds p r → AddCause L E h n ds p r
  too_many_made :
      (c : Count) → ComeToPass E ds c → r ≡ record { span = p; what = TooMany c } → AddCause L E h n ds p r
  kernel : r.span ≡ p → Stops L E ds r.what → AddCause L E h n ds p r

-- the structure isn't declared
pub data DeclareCause (E : List Decl) (w : Background) (L : Budget) (n : NameId) (ns : List NameId) (x : Set) (p : Span) (r : Refusal) : Type 0 where
  not_made : MakeCause E w n ns x p r → DeclareCause E w L n ns x p r
  made_not_added :
      (N : List (List ℕ)) (ds : List Decl) → Extends w.names N → IsMade N E w n ns x ds
      → AddCause L E (with_structure w.hier n ns) n ds p r → DeclareCause E w L n ns x p r

-- COMMANDS

-- the command at the place s, a structure of these items at the carrier c, is refused
pub data StructureCause (E : List Decl) (w : Background) (L : Budget) (s : Span) (n c : Word) (is : List Item) (r : Refusal) : Type 0 where
  not_named : NameCause E w s n.name n.span r → StructureCause E w L s n c is r
  not_item : MayBeNamed E w n.name → ItemsCause w.hier c.name is r → StructureCause E w L s n c is r
  item_memory :
      MayBeNamed E w n.name → AreItems w.hier c.name is → r ≡ record { span = n.span; what = NoMemory }
      → StructureCause E w L s n c is r
  not_allowed :
      MayBeNamed E w n.name → AreItems w.hier c.name is
      → SetCause w.hier n.name (brought w.hier (factory_names is)) n.span r → StructureCause E w L s n c is r
  not_declared :
      MayBeNamed E w n.name → AreItems w.hier c.name is → IsAllowed (sets w.hier) (brought w.hier (factory_names is))
      → DeclareCause E w L n.name (factory_names is) (brought w.hier (factory_names is)) n.span r
      → StructureCause E w L s n c is r

-- why the command at the place is refused: one of another family isn't taken here
abbrev pub Refuses : List Decl → Background → Budget → Span → Act → Refusal → Type 0
Refuses E w L s (structure n c is) r = StructureCause E w L s n c is r
Refuses E w L s _ r = r ≡ record { span = s; what = NotYet }

-- ENTRIES OF LIBRARIES

-- the entry's declarations aren't those that are made, or they are and aren't added
pub data CompareCause (L : Budget) (E : List Decl) (h : Hierarchy) (n : NameId) (p : Places) (ds made : List Decl) (r : Refusal) : Type 0 where
  not_same : (at : ℕ) → IsOther p ds made at → r ≡ bad_at p at → CompareCause L E h n p ds made r
  same_not_added : ds ≡ made → AddCause L E h n made p.span r → CompareCause L E h n p ds made r

-- the structure of an entry isn't declared
pub data LoadCause (E : List Decl) (w : Background) (L : Budget) (n : NameId) (ns : List NameId) (x : Set) (p : Places) (ds : List Decl) (r : Refusal) : Type 0 where
  load_not_made : MakeCause E w n ns x p.span r → LoadCause E w L n ns x p ds r
  load_not_taken :
      (N : List (List ℕ)) (made : List Decl) → Extends w.names N → IsMade N E w n ns x made
      → CompareCause L E (with_structure w.hier n ns) n p ds made r → LoadCause E w L n ns x p ds r

-- the entry of a structure with these items and declarations isn't taken
pub data EntryCause (E : List Decl) (w : Background) (L : Budget) (n : NameId) (ns : List NameId) (p : Places) (ds : List Decl) (r : Refusal) : Type 0 where
  entry_not_named : NameCause E w p.span n p.span r → EntryCause E w L n ns p ds r
  entry_not_item : MayBeNamed E w n → IsFirstFault w.hier ns p.span r → EntryCause E w L n ns p ds r
  entry_not_allowed :
      MayBeNamed E w n → NoFault w.hier ns (length ns) → SetCause w.hier n (brought w.hier ns) p.span r
      → EntryCause E w L n ns p ds r
  entry_not_declared :
      MayBeNamed E w n → NoFault w.hier ns (length ns) → IsAllowed (sets w.hier) (brought w.hier ns)
      → LoadCause E w L n ns (brought w.hier ns) p ds r → EntryCause E w L n ns p ds r

-- why the entry with the head and the declarations, at the places, isn't taken
abbrev pub LoadRefuses : List Decl → Background → Budget → Places → Head → List Decl → Refusal → Type 0
LoadRefuses E w L p (heads.Structure n v) ds r = EntryCause E w L n v.items p ds r
LoadRefuses E w L p _ ds r = r ≡ record { span = p.span; what = NotYet }
