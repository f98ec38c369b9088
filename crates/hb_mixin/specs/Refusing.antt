-- Why a mixin or a factory isn't taken.
use Rattle.std.specs.Prelude.{◌≡◌, ℕ, ◌≤◌, false, List, [], ◌∷◌, ◌++◌, length, Option, None, Some, IsSome, codes, slice_get}
use Rattle.hb_base.specs.Names.{is_named}
use Rattle.hb_base.specs.declared.count.Count.{Count}
use Rattle.hb_base.specs.declared.count.Count.TheVariants.{Names, Mixins, Factories}
use Rattle.hb_base.specs.declared.name_id.NameId.{NameId}
use Rattle.hb_base.specs.declared.span.Span.{Span}
use Rattle.hb_calculus.specs.Budget.{Budget}
use Rattle.hb_calculus.specs.Declarations.{Decl}
use Rattle.hb_env.specs.declared.refusal.Refusal.{Refusal}
use Rattle.hb_env.specs.declared.refusal.What.{What}
use Rattle.hb_env.specs.declared.refusal.What.TheVariants as what
use Rattle.hb_generated.specs.State.{Kind, of_mixin, of_factory}
use Rattle.hb_hier.specs.Declaring.{DeclareRefusal}
use Rattle.hb_hier.specs.Hierarchy.{Hierarchy, MOST, known_as}
use Rattle.hb_hier.specs.declared.error.HierRefused.{HierRefused}
use Rattle.hb_items.specs.Items.{AreItems, ItemsCause, told}
use Rattle.hb_mixin.specs.Declaring.{AreMade, field_names}
use Rattle.hb_raw.specs.Preterm.{Preterm}
use Rattle.hb_raw.specs.Sentence.{Act, mixin, factory}
use Rattle.hb_raw.specs.declared.word.Item.{Item}
use Rattle.hb_raw.specs.declared.word.Word.{Word}
use Rattle.hb_step.specs.Adding.{NotAdded}
use Rattle.hb_step.specs.Counting.{ComeToPass}
use Rattle.hb_step.specs.Elaborating.{IsOfElaboration}
use Rattle.hb_step.specs.Naming.{IsReserved, IsTaken, IsRedeclared, IsUnfit}
use Rattle.hb_step.specs.Reserved.{is_kept, is_reserved, is_reserved_part}
use Rattle.hb_world.specs.Taking.{factory_names}
use Rattle.hb_world.specs.Worlds.{Background}

abbrev pub refusal : Span → What → Refusal
refusal s w = record { span = s; what = w }

-- WHAT IS WRITTEN

pub data Family : Type 0 where
  mixins : Family
  factories : Family

-- the command of the family; how many a hierarchy has; what is counted
abbrev pub command : Family → List NameId → Kind
command mixins items = of_mixin items
command factories items = of_factory items

abbrev pub held : Family → Hierarchy → ℕ
held mixins h = length h.mixins
held factories h = length h.factories

abbrev pub counted : Family → Count
counted mixins = Mixins
counted factories = Factories

pub record Writing : Type 0 where
  pub family : Family
  pub name : Word
  pub carrier : Word
  pub items : List Item
  pub fields : List (Word × Preterm)

-- a mixin or a factory as the command writes it; no other command does
abbrev pub written : Act → Option Writing
written (mixin n c is fs) = Some (record { family = mixins; name = n; carrier = c; items = is; fields = fs })
written (factory n c is fs) = Some (record { family = factories; name = n; carrier = c; items = is; fields = fs })
written _ = None

-- KEPT NAMES OF FIELDS

abbrev pub NoneKept : List (List ℕ) → List (Word × Preterm) → Type 0
NoneKept N [] = Unit {0}
NoneKept N (f ∷ fs) = (is_kept is_reserved_part (slice_get N f.0.name.0) ≡ false) × NoneKept N fs

-- the first field whose name is kept
pub data FirstKept (N : List (List ℕ)) : List (Word × Preterm) → Refusal → Type 0 where
  kept_here :
      {f : Word × Preterm} {fs : List (Word × Preterm)} {r : Refusal} → IsReserved is_reserved_part N f.0.name f.0.span r → FirstKept N (f ∷ fs) r
  kept_later :
      {f : Word × Preterm} {fs : List (Word × Preterm)} {r : Refusal} → is_kept is_reserved_part (slice_get N f.0.name.0) ≡ false → FirstKept N fs r → FirstKept N (f ∷ fs) r

-- NAMES THAT GET NO NUMBER

-- what stands behind a name in those that are made of it: `.Build`, or a point and a field's short name
pub data IsWordOf (N : List (List ℕ)) : List NameId → List ℕ → Type 0 where
  of_maker : {fields : List NameId} → IsWordOf N fields (codes ".Build")
  of_field : {s : NameId} {fields : List NameId} {t : List ℕ} → slice_get N s.0 ≡ Some t → IsWordOf N (s ∷ fields) (codes "." ++ t)
  of_later : {s : NameId} {fields : List NameId} {t : List ℕ} → IsWordOf N fields t → IsWordOf N (s ∷ fields) t

-- the text is new, and no further name fits
pub record HasNoRoom (N : List (List ℕ)) (text : List ℕ) (s : Span) (r : Refusal) : Type 0 where
  pub new : is_named N text ≡ false
  pub full : 65535 ≤ length N
  pub told_so : r ≡ refusal s (what.TooMany Names)

-- so it is with the text of n and the word behind it
abbrev pub HasNoRoomFor : List (List ℕ) → NameId → List ℕ → Span → Refusal → Type 0
HasNoRoomFor N n word s r = (t : List ℕ) × (slice_get N n.0 ≡ Some t) × HasNoRoom N (t ++ word) s r

-- so it is with one of the names that are made of n
abbrev pub HasNoNumber : List (List ℕ) → NameId → List NameId → Span → Refusal → Type 0
HasNoNumber N n fields s r = (word : List ℕ) × IsWordOf N fields word × HasNoRoomFor N n word s r

-- THE RECORD

-- Why the record of the name n, with these items and short names of fields, isn't declared after E and h; N are the
-- names then.
pub data NotDeclared (N : List (List ℕ)) (E : List Decl) (h : Hierarchy) (L : Budget) (f : Family) (n : NameId) (items fields : List NameId) (s : Span) (r : Refusal) : Type 0 where
  no_memory : r.what ≡ what.NoMemory → NotDeclared N E h L f n items fields s r
  -- a name that is made gets no number
  no_number : HasNoNumber N n fields s r → NotDeclared N E h L f n items fields s r
  -- a name of the record is taken, or stands twice in it
  unfit : (d : Decl) (m : NameId) → AreMade N E h (command f items) n fields (d ∷ []) → IsUnfit E h [] (d ∷ []) m
      → r ≡ refusal s (what.Redeclared m) → NotDeclared N E h L f n items fields s r
  -- there are as many mixins or factories as there may be
  too_many : held f h ≡ MOST → r ≡ refusal s (what.TooMany (counted f)) → NotDeclared N E h L f n items fields s r
  -- a count is passed with the record
  passed : (d : Decl) (c : Count) → AreMade N E h (command f items) n fields (d ∷ []) → ComeToPass E (d ∷ []) c
      → r ≡ refusal s (what.TooMany c) → NotDeclared N E h L f n items fields s r
  -- the kernel doesn't add the record
  not_added : (d : Decl) → AreMade N E h (command f items) n fields (d ∷ []) → NotAdded E L d r.what → r.span ≡ s
      → NotDeclared N E h L f n items fields s r
  -- the hierarchy has something under the name, or doesn't take it
  known : IsSome (known_as h n) → r ≡ refusal s (what.Redeclared n) → NotDeclared N E h L f n items fields s r
  hierarchy : (e : HierRefused) → DeclareRefusal h items (counted f) (held f h) e → r ≡ refusal s (told h n e)
      → NotDeclared N E h L f n items fields s r

-- THE COMMAND

-- its name and those of its fields aren't kept, and its name is new
pub record MayHaveNames (E : List Decl) (w : Background) (v : Writing) : Type 0 where
  pub not_kept : is_kept is_reserved (slice_get w.names v.name.name.0) ≡ false
  pub no_part : is_kept is_reserved_part (slice_get w.names v.name.name.0) ≡ false
  pub fields_not_kept : NoneKept w.names v.fields
  pub not_taken : ¬ IsTaken E w.hier v.name.name

-- no section is open, the names may be declared, and the items may stand in its list
pub record IsAdmitted (E : List Decl) (w : Background) (v : Writing) : Type 0 where
  pub outside : w.section ≡ None
  pub names : MayHaveNames E w v
  pub items_are : AreItems w.hier v.carrier.name v.items

-- why what is written, at s, isn't taken; N are the names then
pub data NotTaken (E : List Decl) (w : Background) (N : List (List ℕ)) (L : Budget) (v : Writing) (s : Span) (r : Refusal) : Type 0 where
  section_open : ¬ (w.section ≡ None) → r ≡ refusal s what.SectionOpen → NotTaken E w N L v s r
  name_kept : w.section ≡ None → IsReserved is_reserved w.names v.name.name v.name.span r → NotTaken E w N L v s r
  part_kept : w.section ≡ None → IsReserved is_reserved_part w.names v.name.name v.name.span r → NotTaken E w N L v s r
  field_kept : w.section ≡ None → FirstKept w.names v.fields r → NotTaken E w N L v s r
  redeclared : w.section ≡ None → IsRedeclared E w.hier v.name.name v.name.span r → NotTaken E w N L v s r
  item : w.section ≡ None → ItemsCause w.hier v.carrier.name v.items r → NotTaken E w N L v s r
  -- memory is wanting, or the type of a field isn't elaborated
  not_elaborated : IsAdmitted E w v → IsOfElaboration r.what → NotTaken E w N L v s r
  not_declared : IsAdmitted E w v
      → NotDeclared N E w.hier L v.family v.name.name (factory_names v.items) (field_names v.fields) v.name.span r
      → NotTaken E w N L v s r

-- why the command at s isn't taken, where N are the names after: it is no mixin and no factory, or by its cause
abbrev pub RefusesAs : List Decl → Background → List (List ℕ) → Budget → Option Writing → Span → Refusal → Type 0
RefusesAs E w N L None s r = r ≡ refusal s what.NotYet
RefusesAs E w N L (Some v) s r = NotTaken E w N L v s r

abbrev pub Refuses : List Decl → Background → List (List ℕ) → Budget → Act → Span → Refusal → Type 0
Refuses E w N L a s r = RefusesAs E w N L (written a) s r
