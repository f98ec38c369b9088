-- What every command does to what is declared, and to names.
use Rattle.std.specs.Prelude.{◌≡◌, ℕ, ◌++◌, List, map, Option}
use Rattle.std.specs.Option.{option_map}
use Rattle.std.specs.Global.{Vec}
use Rattle.hb_base.specs.declared.name_id.NameId.{NameId}
use Rattle.hb_order.specs.declared.ids.StructId.{StructId}
use Rattle.hb_term.specs.declared.scoped.Scoped.{Scoped}
use Rattle.hb_calculus.specs.Declarations.{Decl}
use Rattle.hb_env.specs.Plain.{plains}
use Rattle.hb_env.specs.declared.entry.Entry.{Entry}
use Rattle.hb_env.specs.declared.entry.Head.{Head}
use Rattle.hb_env.specs.declared.entry.Head.TheVariants as heads
use Rattle.hb_raw.specs.declared.word.Word.{Word}
use Rattle.hb_raw.specs.declared.word.Item.{Item}
use Rattle.hb_raw.specs.Sentence.{Act, axiom_of, definition, mixin, factory, builders, section_end, structure, instance, join, find, require}
use Rattle.hb_world.specs.declared.done.Done.{Done}
use Rattle.hb_world.specs.declared.done.Done.TheVariants as done

-- the names that are held stay, with their numbers
abbrev pub Extends : List (List ℕ) → List (List ℕ) → Type 0
Extends old new = (more : List (List ℕ)) × (new ≡ old ++ more)

-- the declarations of the entry are added, and no others
abbrev pub HasAdded : List Decl → List Decl → Entry → Type 0
HasAdded old new e = new ≡ old ++ plains e.decls.items

-- an entry's declarations are added; a query adds none
abbrev pub HasGrown : List Decl → List Decl → Done → Type 0
HasGrown old new (done.Entry e) = HasAdded old new e
HasGrown old new (done.Join j) = new ≡ old
HasGrown old new (done.Find k) = new ≡ old

-- the factories of items, and the structures of binders, by their names
abbrev pub factory_names : List Item → List NameId
factory_names items = map (λ i. i.factory.name) items

abbrev pub word_name : Word → NameId
word_name w = w.name

abbrev pub binder_names : List (Word × Option Word) → List (Option NameId)
binder_names binders = map (λ b. option_map word_name b.1) binders

-- the head of an entry has the names of the command
abbrev pub IsHeadOf : Act → Head → Type 0
IsHeadOf (axiom_of n ty) h = h ≡ heads.Axiom
IsHeadOf (definition n bs ty b) h = h ≡ heads.Definition
IsHeadOf (mixin n c is fs) h = (v : Vec NameId) × (h ≡ heads.Mixin v) × (v.items ≡ factory_names is)
IsHeadOf (factory n c is fs) h = (v : Vec NameId) × (h ≡ heads.Factory v) × (v.items ≡ factory_names is)
IsHeadOf (builders c v i) h = h ≡ heads.Builders i.factory.name c.name (option_map word_name v)
IsHeadOf section_end h = h ≡ heads.End
IsHeadOf (structure n c is) h = (v : Vec NameId) × (h ≡ heads.Structure n.name v) × (v.items ≡ factory_names is)
IsHeadOf (instance n bs f c ws t) h =
    (v : Vec (Option NameId)) × (h ≡ heads.Instance f.name c.name v) × (v.items ≡ binder_names bs)
IsHeadOf (require n) h = h ≡ heads.Require n.name
IsHeadOf _ h = ⊥

-- a query has no entry, every other command one with its names
abbrev pub HasHead : Act → Done → Type 0
HasHead (join a b) d = (j : Option StructId) × (d ≡ done.Join j)
HasHead (find s c) d = (k : Option Scoped) × (d ≡ done.Find k)
HasHead act d = (e : Entry) × (d ≡ done.Entry e) × IsHeadOf act e.head
