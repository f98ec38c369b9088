-- The lines of what accepted commands report.
use Rattle.std.specs.Prelude.{◌≡◌, ℕ, ◌-◌, cond, nat_le, List, [], ◌∷◌, map, length, take, Option, None, Some, codes}
use Rattle.std.specs.Global.{Vec}
use Rattle.std.specs.Fmt.{decimal}
use Rattle.hb_base.specs.declared.name_id.NameId.{NameId}
use Rattle.hb_sets.specs.Set.{Set, union}
use Rattle.hb_order.specs.Heirs.{mix}
use Rattle.hb_order.specs.declared.ids.StructId.{StructId}
use Rattle.hb_term.specs.Meaning.{tree}
use Rattle.hb_term.specs.declared.scoped.Scoped.{Scoped}
use Rattle.hb_calculus.specs.Declarations.{Decl}
use Rattle.hb_hier.specs.Hierarchy as hierarchy
use Rattle.hb_hier.specs.Hierarchy.{Hierarchy, sets, required, provided}
use Rattle.hb_hier.specs.declared.known.Known.{Known}
use Rattle.hb_hier.specs.declared.known.Known.TheVariants.{Factory, Structure}
use Rattle.hb_world.specs.Worlds.{Background, Opened}
use Rattle.hb_writer.specs.Text.{joined, text}
use Rattle.hb_report.specs.Lines.{event_line, list_line, listed, name_of}
use Rattle.hb_events.specs.Listing.{mixin_names, structure_names, is_above, with_name, AreNewAt, new_in}
use Rattle.hb_events.specs.declared.event.Event.{Event}
use Rattle.hb_events.specs.declared.event.Event.TheVariants as event
use Rattle.hb_events.specs.declared.event.Had.{Had}
use Rattle.hb_events.specs.declared.event.Had.TheVariants.{Declared, Local}

abbrev pub numbers : List NameId → List ℕ
numbers ns = map (λ n. n.0) ns

-- a word, one name or two, and a colon
abbrev pub head : (word first : List ℕ) → List ℕ
head word first = joined (word ∷ codes " " ∷ first ∷ codes ":" ∷ [])

abbrev pub head_of_two : (word first second : List ℕ) → List ℕ
head_of_two word first second = joined (word ∷ codes " " ∷ first ∷ codes " " ∷ second ∷ codes ":" ∷ [])

-- the line of what was declared, if it has a name, with the names of a set
abbrev pub set_line : List (List ℕ) → Hierarchy → (word : List ℕ) → Option NameId → Set → List ℕ
set_line N h word None x = []
set_line N h word (Some n) x = list_line (head word (name_of N n.0)) N (numbers (mixin_names h x))

abbrev pub key_text : List (List ℕ) → List Decl → Option Scoped → List ℕ
key_text N E None = codes "none"
key_text N E (Some t) = text N E t.depth (tree t.term)

-- the join's name, if there is one
abbrev pub join_names : Hierarchy → Option StructId → List NameId
join_names h None = []
join_names h (Some s) = with_name [] (hierarchy.name_of h (Structure s))

-- the names of a list of `HB.howto`, behind commas
abbrev pub way_text : List (List ℕ) → List NameId → List ℕ
way_text N [] = []
way_text N (n ∷ []) = joined (codes " " ∷ name_of N n.0 ∷ [])
way_text N (n ∷ m ∷ ns) = joined (codes " " ∷ name_of N n.0 ∷ codes "," ∷ way_text N (m ∷ ns) ∷ [])

abbrev pub way_lines : List (List ℕ) → (head : List ℕ) → List (Vec NameId) → List ℕ
way_lines N head [] = []
way_lines N head (w ∷ ws) = joined (head ∷ way_text N w.items ∷ codes "\n" ∷ way_lines N head ws ∷ [])

-- how many lists there are beyond the first 1,000
abbrev pub more_line : (head : List ℕ) → ℕ → List ℕ
more_line head n = cond (nat_le n 1000) [] (joined (head ∷ codes " and " ∷ decimal (n - 1000) ∷ codes " more\n" ∷ []))

abbrev pub ways_text : List (List ℕ) → (head : List ℕ) → List (Vec NameId) → List ℕ
ways_text N head [] = joined (head ∷ codes " none\n" ∷ [])
ways_text N head (w ∷ ws) = joined (way_lines N head (take 1000 (w ∷ ws)) ∷ more_line head (length (w ∷ ws)) ∷ [])

-- the names of a set's mixins, each behind a space, or ` none` where there are none
abbrev pub set_text : List (List ℕ) → Hierarchy → Set → List ℕ
set_text N h x = listed N (numbers (mixin_names h x))

-- a mixin or a factory: what it needs and gives
abbrev pub factory_line : List (List ℕ) → Hierarchy → (name : List ℕ) → Known → List ℕ
factory_line N h name k =
    joined (codes "about " ∷ name ∷ codes ": needs" ∷ set_text N h (required h k) ∷ codes " gives" ∷ set_text N h (provided h k) ∷ codes "\n" ∷ [])

-- a structure: its mixins, and the structures below and above it
abbrev pub structure_line : List (List ℕ) → Hierarchy → (name : List ℕ) → StructId → List ℕ
structure_line N h name s =
    joined (codes "about " ∷ name ∷ codes ": mixins" ∷ set_text N h (mix (sets h) s.0) ∷ codes " ancestors" ∷ listed N (numbers (structure_names h (λ t. is_above h s.0 t))) ∷ codes " heirs" ∷ listed N (numbers (structure_names h (λ t. is_above h t s.0))) ∷ codes "\n" ∷ [])

abbrev pub known_line : List (List ℕ) → Hierarchy → (name : List ℕ) → Known → List ℕ
known_line N h name (Structure s) = structure_line N h name s
known_line N h name k = factory_line N h name k

abbrev pub about_line : List (List ℕ) → Hierarchy → (name : List ℕ) → Known → Option NameId → List ℕ
about_line N h name k None = []
about_line N h name k (Some n) = known_line N h name k

-- the structures that the section's carrier newly has
abbrev pub new_in_section : Hierarchy → (before : Set) → Option Opened → List NameId
new_in_section h before None = []
new_in_section h before (Some o) = new_in h before (union before o.provided)

-- the structures that a carrier newly has
abbrev pub AreNew : List Decl → Background → (carrier : ℕ) → Had → List NameId → Type 0
AreNew E w k (Declared n) ns = AreNewAt E w.hier w.tables k n ns
AreNew E w k (Local before) ns = ns ≡ new_in_section w.hier before w.section

abbrev pub IsInstanceLine : List Decl → Background → (factory carrier : NameId) → Had → List ℕ → Type 0
IsInstanceLine E w f k had t =
    (ns : List NameId) × AreNew E w k.0 had ns × (t ≡ list_line (head_of_two (codes "instance") (name_of w.names f.0) (name_of w.names k.0)) w.names (numbers ns))

-- the lines of an event, in the session after it: these declarations, and this beside them
abbrev pub IsToldAs : List Decl → Background → Event → List ℕ → Type 0
IsToldAs E w (event.Axiom n) t = t ≡ event_line (codes "axiom") (name_of w.names n.0)
IsToldAs E w (event.Definition n) t = t ≡ event_line (codes "definition") (name_of w.names n.0)
IsToldAs E w (event.Mixin n) t = t ≡ event_line (codes "mixin") (name_of w.names n.0)
IsToldAs E w (event.Factory n) t = t ≡ event_line (codes "factory") (name_of w.names n.0)
IsToldAs E w (event.Builders n) t = t ≡ event_line (codes "builders") (name_of w.names n.0)
IsToldAs E w (event.End f) t = t ≡ set_line w.names w.hier (codes "end") (hierarchy.name_of w.hier (Factory f)) (provided w.hier (Factory f))
IsToldAs E w (event.Structure s) t = t ≡ set_line w.names w.hier (codes "structure") (hierarchy.name_of w.hier (Structure s)) (mix (sets w.hier) s.0)
IsToldAs E w (event.Instance f k had) t = IsInstanceLine E w f k had t
IsToldAs E w (event.Core n) t = t ≡ event_line (codes "core") (name_of w.names n.0)
IsToldAs E w (event.Require n) t = t ≡ event_line (codes "require") (name_of w.names n.0)
IsToldAs E w (event.Join a b j) t =
    t ≡ list_line (head_of_two (codes "join") (name_of w.names a.0) (name_of w.names b.0)) w.names (numbers (join_names w.hier j))
IsToldAs E w (event.Find s k) t = t ≡ joined (codes "find " ∷ name_of w.names s.0 ∷ codes ": " ∷ key_text w.names E k ∷ codes "\n" ∷ [])
IsToldAs E w (event.Given s k) t =
    t ≡ joined (head_of_two (codes "howto") (name_of w.names s.0) (name_of w.names k.0) ∷ codes " given\n" ∷ [])
IsToldAs E w (event.Howto s k ls) t =
    t ≡ ways_text w.names (head_of_two (codes "howto") (name_of w.names s.0) (name_of w.names k.0)) ls.items
IsToldAs E w (event.About n k) t = t ≡ about_line w.names w.hier (name_of w.names n.0) k (hierarchy.name_of w.hier k)

-- how many lines `HB.howto` has
abbrev pub way_count : ℕ → ℕ
way_count n = cond (nat_le n 0) 1 (cond (nat_le n 1000) n 1001)

-- how many lines an event has
abbrev pub line_count : Event → ℕ
line_count (event.Howto s k ls) = way_count (length ls.items)
line_count _ = 1
