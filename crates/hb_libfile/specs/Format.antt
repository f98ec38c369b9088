-- The bytes of a library. Numbers have their least byte first; a name is its place in the table.
use Rattle.std.specs.Prelude.{ℕ, Bool, true, false, cond, List, [], ◌∷◌, ◌++◌, length, drop, Option, None, Some, codes}
use Rattle.std.specs.Int.{to_le_bytes, w16, w32}
use Rattle.hb_base.specs.declared.name_id.NameId.{NameId}
use Rattle.hb_tree.specs.Tree.{Tree, sort, rel, pi, lam, app, const, proj, hole}
use Rattle.hb_tree.specs.declared.leaves.Sort.TheVariants.{Prop, Level}
use Rattle.hb_calculus.specs.Declarations.{Decl, an_axiom, a_definition, a_record}
use Rattle.hb_env.specs.Plain.{plains}
use Rattle.hb_env.specs.declared.entry.Head.{Head}
use Rattle.hb_env.specs.declared.entry.Head.TheVariants.{Core, Axiom, Definition, Mixin, Factory, Builders, End, Structure, Instance, Require}
use Rattle.hb_env.specs.declared.entry.Entry.{Entry}

-- numbers of two and of four bytes
abbrev pub short : ℕ → List ℕ
short n = to_le_bytes w16 n

abbrev pub number : ℕ → List ℕ
number n = to_le_bytes w32 n

-- things one after another
abbrev pub each : {X : Type 0} → (X → List ℕ) → List X → List ℕ
each f [] = []
each f (x ∷ xs) = f x ++ each f xs

-- a term: a tag, and its parts
abbrev pub term_bytes : Tree → List ℕ
term_bytes (sort Prop) = 0 ∷ []
term_bytes (sort (Level k)) = 1 ∷ k ∷ []
term_bytes (rel v) = 2 ∷ number v
term_bytes (pi a b) = 3 ∷ (term_bytes a ++ term_bytes b)
term_bytes (lam a b) = 4 ∷ (term_bytes a ++ term_bytes b)
term_bytes (app a b) = 5 ∷ (term_bytes a ++ term_bytes b)
term_bytes (const c) = cond c.maker 7 6 ∷ number c.decl
term_bytes (proj r i t) = 8 ∷ (number r.0 ++ (short i ++ term_bytes t))
term_bytes (hole h) = 0 ∷ []

abbrev pub terms_bytes : List Tree → List ℕ
terms_bytes = each term_bytes

abbrev pub field_bytes : ℕ × Tree → List ℕ
field_bytes f = short f.0 ++ term_bytes f.1

abbrev pub fields_bytes : List (ℕ × Tree) → List ℕ
fields_bytes = each field_bytes

-- a declaration
abbrev pub decl_bytes : Decl → List ℕ
decl_bytes (an_axiom n t) = 0 ∷ (short n ++ term_bytes t)
decl_bytes (a_definition n t b) = 1 ∷ (short n ++ (term_bytes t ++ term_bytes b))
decl_bytes (a_record n m ps k fs) =
    2 ∷ (short n ++ (short m ++ (short (length ps) ++ (terms_bytes ps ++ (k ∷ (short (length fs) ++ fields_bytes fs))))))

abbrev pub decls_bytes : List Decl → List ℕ
decls_bytes = each decl_bytes

-- names behind their count, and a name that may be absent
abbrev pub name_bytes : NameId → List ℕ
name_bytes n = short n.0

abbrev pub names_bytes : List NameId → List ℕ
names_bytes = each name_bytes

abbrev pub items_bytes : List NameId → List ℕ
items_bytes ns = number (length ns) ++ names_bytes ns

abbrev pub optional_bytes : Option NameId → List ℕ
optional_bytes None = 0 ∷ []
optional_bytes (Some n) = 1 ∷ short n.0

abbrev pub optionals_bytes : List (Option NameId) → List ℕ
optionals_bytes = each optional_bytes

-- the structures of binders, which only version 2 has
abbrev pub binders_bytes : (second : Bool) → List (Option NameId) → List ℕ
binders_bytes true bs = short (length bs) ++ optionals_bytes bs
binders_bytes false bs = []

-- a head
abbrev pub head_bytes : (second : Bool) → Head → List ℕ
head_bytes second Core = 0 ∷ []
head_bytes second Axiom = 1 ∷ []
head_bytes second Definition = 2 ∷ []
head_bytes second (Mixin items) = 3 ∷ items_bytes items.items
head_bytes second (Factory items) = 4 ∷ items_bytes items.items
head_bytes second (Builders f k v) = 5 ∷ (short f.0 ++ (short k.0 ++ optional_bytes v))
head_bytes second End = 6 ∷ []
head_bytes second (Structure n items) = 7 ∷ (short n.0 ++ items_bytes items.items)
head_bytes second (Instance f k bs) = 8 ∷ (short f.0 ++ (short k.0 ++ binders_bytes second bs.items))
head_bytes second (Require n) = 9 ∷ short n.0

-- an entry: its head, and its declarations behind their count
abbrev pub entry_bytes : (second : Bool) → Entry → List ℕ
entry_bytes second e = head_bytes second e.head ++ (number (length e.decls.items) ++ decls_bytes (plains e.decls.items))

abbrev pub entries_bytes : (second : Bool) → List Entry → List ℕ
entries_bytes second = each (entry_bytes second)

-- the table of names
abbrev pub text_bytes : List ℕ → List ℕ
text_bytes t = short (length t) ++ t

abbrev pub texts_bytes : List (List ℕ) → List ℕ
texts_bytes = each text_bytes

abbrev pub mark_bytes : (second : Bool) → List ℕ
mark_bytes true = codes "HBLIB002"
mark_bytes false = codes "HBLIB001"

-- a library of these names and entries
abbrev pub library_bytes : (second : Bool) → List (List ℕ) → List Entry → List ℕ
library_bytes second N es =
    mark_bytes second ++ ((number (length N) ++ texts_bytes N) ++ (number (length es) ++ entries_bytes second es))
