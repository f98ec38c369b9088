-- The lines of the report.
use Rattle.std.specs.Prelude.{ℕ, ◌+◌, List, [], ◌∷◌, ◌++◌, map, codes, cond, nat_le, length, take, slice_get}
use Rattle.std.specs.Fmt.{decimal}
use Rattle.std.specs.Str.Lossy.{utf8_lossy}
use Rattle.hb_base.specs.declared.count.Count.{Count}
use Rattle.hb_base.specs.declared.count.Count.TheVariants.{Names, Mixins, Factories, Structures, Declarations, Fields, Nodes, Files}
use Rattle.hb_base.specs.declared.span.Span.{Span}
use Rattle.hb_term.specs.Meaning.{tree}
use Rattle.hb_calculus.specs.Declarations.{Decl}
use Rattle.hb_env.specs.declared.refusal.Refusal.{Refusal}
use Rattle.hb_env.specs.declared.refusal.What.{What}
use Rattle.hb_report.specs.Refusals.{Printed, by_name, by_term, by_count, Telling, numbered, spent, used_up, untold, title, values}
use Rattle.hb_report.specs.declared.refusals.Telling as code
use Rattle.hb_report.specs.declared.refusals.Telling.TheVariants as told
use Rattle.hb_report.specs.declared.refusals.Value.{Value}
use Rattle.hb_report.specs.declared.refusals.Value.TheVariants as value
use Rattle.hb_writer.specs.Text.{joined, text, text_or_number}

-- how the code tells a refusal
abbrev pub telling_of : code.Telling → Telling
telling_of (told.Numbered n word) = numbered n word.now
telling_of told.Spent = spent
telling_of told.UsedUp = used_up
telling_of told.Untold = untold

-- what the code prints, as a printed value
abbrev pub printed : Value → Printed
printed (value.Name n) = by_name n
printed (value.Term t) = by_term t.now
printed (value.Count c) = by_count c

abbrev pub count_word : Count → List ℕ
count_word Names = codes "names"
count_word Mixins = codes "mixins"
count_word Factories = codes "factories"
count_word Structures = codes "structures"
count_word Declarations = codes "declarations"
count_word Fields = codes "fields"
count_word Nodes = codes "nodes"
count_word Files = codes "files"

-- a text of more than 1,000 bytes is cut; a character that the cut breaks is written as a broken one
abbrev pub cut_text : List ℕ → List ℕ
cut_text t = cond (nat_le (length t) 1000) t (utf8_lossy (take 1000 t) ++ codes "...")

-- a value behind a space: a name is plain, a term stands in parentheses
abbrev pub value_text : List (List ℕ) → List Decl → Printed → List ℕ
value_text N E (by_name n) = joined (codes " " ∷ text_or_number (slice_get N n.0) n.0 ∷ [])
value_text N E (by_term t) = joined (codes " (" ∷ cut_text (text N E t.depth (tree t.term)) ∷ codes ")" ∷ [])
value_text N E (by_count c) = joined (codes " " ∷ count_word c ∷ [])

abbrev pub values_text : List (List ℕ) → List Decl → List Printed → List ℕ
values_text N E [] = []
values_text N E (v ∷ vs) = value_text N E v ++ values_text N E vs

-- a place in a file: the file's name and two bytes
abbrev pub place_text : (file : List ℕ) → Span → List ℕ
place_text file x = joined (file ∷ codes " " ∷ decimal x.from ∷ codes " " ∷ decimal x.to ∷ [])

-- The line of a refusal that is told so, with these values, at a place of a file.
abbrev pub told_line : List (List ℕ) → List Decl → (place : List ℕ) → Telling → List Printed → List ℕ
told_line N E place (numbered n word) vs =
    joined (codes "refused " ∷ decimal n ∷ codes " " ∷ place ∷ codes " " ∷ word ∷ values_text N E vs ∷ codes "\n" ∷ [])
told_line N E place spent vs = joined (codes "spent " ∷ place ∷ values_text N E vs ∷ codes "\n" ∷ [])
told_line N E place used_up vs = joined (codes "spent " ∷ place ∷ codes " moves\n" ∷ [])
told_line N E place untold vs = []

abbrev pub refusal_line : List (List ℕ) → List Decl → (file : List ℕ) → Span → What → List ℕ
refusal_line N E file x w = told_line N E (place_text file x) (title w) (values w)

-- a line of a word and a text
abbrev pub event_line : (word text : List ℕ) → List ℕ
event_line word text = joined (word ∷ codes " " ∷ text ∷ codes "\n" ∷ [])

abbrev pub name_of : List (List ℕ) → ℕ → List ℕ
name_of N n = text_or_number (slice_get N n) n

-- a head and names, or `none` where there are none
abbrev pub names_text : List (List ℕ) → List ℕ → List ℕ
names_text N [] = []
names_text N (n ∷ ns) = joined (codes " " ∷ name_of N n ∷ names_text N ns ∷ [])

abbrev pub listed : List (List ℕ) → List ℕ → List ℕ
listed N [] = codes " none"
listed N (n ∷ ns) = names_text N (n ∷ ns)

abbrev pub list_line : (head : List ℕ) → List (List ℕ) → List ℕ → List ℕ
list_line head N ns = joined (head ∷ listed N ns ∷ codes "\n" ∷ [])
