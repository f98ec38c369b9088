-- The names that a token needs, and their numbers.
use Rattle.std.specs.Prelude.{◌≡◌, ℕ, ◌+◌, ◌<◌, ◌≤◌, length, List, [], ◌∷◌, ◌++◌, Some, false, slice_get, ◌⊎◌}
use Rattle.hb_base.specs.declared.name_id.NameId.{NameId}
use Rattle.hb_base.specs.Names.{is_named, with_name}
use Rattle.hb_reader.specs.declared.need.Need.{Need}
use Rattle.hb_reader.specs.declared.need.Need.TheVariants.{Nothing, Whole, First, Both}
use Rattle.hb_parse.specs.Marks.{first_part}
use Rattle.hb_parse.specs.Uses.{name_uses}

-- the names that are held stay, with their numbers
abbrev pub Extends : List (List ℕ) → List (List ℕ) → Type 0
Extends old new = (more : List (List ℕ)) × (new ≡ old ++ more)

-- the texts that are needed of a token
abbrev pub needed : Need → List ℕ → List (List ℕ)
needed Nothing text = []
needed Whole text = text ∷ []
needed First text = first_part text ∷ []
needed Both text = first_part text ∷ (text ∷ [])

-- the names after these texts are numbered
abbrev pub with_names : List (List ℕ) → List (List ℕ) → List (List ℕ)
with_names names [] = names
with_names names (text ∷ texts) = with_names (with_name names text) texts

-- the number is that of the text
abbrev pub IsNumber : List (List ℕ) → List ℕ → NameId → Type 0
IsNumber names text id = slice_get names id.0 ≡ Some text

-- the numbers of the whole text and of its first part, where they are needed
abbrev pub AreNumbers : List (List ℕ) → Need → List ℕ → NameId → NameId → Type 0
AreNumbers names Nothing text whole first = Unit {0}
AreNumbers names Whole text whole first = IsNumber names text whole
AreNumbers names First text whole first = IsNumber names (first_part text) first
AreNumbers names Both text whole first = IsNumber names text whole × IsNumber names (first_part text) first

-- each new name is the text
abbrev pub AddsText : List (List ℕ) → List (List ℕ) → List ℕ → Type 0
AddsText old new text = (j : ℕ) → length old ≤ j → j < length new → slice_get new j ≡ Some text

-- each new name is the text, or the first part of it
abbrev pub AddsParts : List (List ℕ) → List (List ℕ) → List ℕ → Type 0
AddsParts old new text =
    (j : ℕ) → length old ≤ j → j < length new → (slice_get new j ≡ Some text) ⊎ (slice_get new j ≡ Some (first_part text))

-- a text that is needed isn't held
abbrev pub Lacks : List (List ℕ) → Need → List ℕ → Type 0
Lacks names Nothing text = ⊥
Lacks names Whole text = is_named names text ≡ false
Lacks names First text = is_named names (first_part text) ≡ false
Lacks names Both text = (is_named names text ≡ false) ⊎ (is_named names (first_part text) ≡ false)

-- how often the number i stands in what is needed
abbrev pub number_uses : ℕ → Need → NameId → NameId → ℕ
number_uses i Nothing whole first = 0
number_uses i Whole whole first = name_uses i whole
number_uses i First whole first = name_uses i first
number_uses i Both whole first = name_uses i whole + name_uses i first

-- c uses of the number i: none where it isn't held, and some where it is new
abbrev pub Counts : ℕ → List (List ℕ) → List (List ℕ) → ℕ → Type 0
Counts i old new c = (length new ≤ i → c ≡ 0) × (length old ≤ i → i < length new → 0 < c)
