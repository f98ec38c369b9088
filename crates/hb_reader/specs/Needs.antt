-- Which numbers of a token's names a step reads.
use Rattle.std.specs.Prelude.{◌≡◌, Bool, true, false}
use Rattle.hb_grammar.specs.declared.mark.Mark.{Mark}
use Rattle.hb_grammar.specs.declared.mark.Mark.TheVariants.{Ident, Pair}
use Rattle.hb_grammar.specs.declared.mark.Second.TheVariants as second
use Rattle.hb_grammar.specs.Leaf.{Sign}
use Rattle.hb_grammar.specs.Machine.{State, begin, take, either}
use Rattle.hb_reader.specs.declared.need.Need.{Need}
use Rattle.hb_reader.specs.declared.need.Need.TheVariants.{Nothing, Whole, First, Both}

-- two signs of one token, alike but for the numbers that aren't needed
abbrev pub Agree : Need → Sign → Sign → Type 0
Agree Nothing w v = (w.value ≡ v.value) × (w.place ≡ v.place)
Agree Whole w v = (w.value ≡ v.value) × (w.place ≡ v.place) × (w.whole ≡ v.whole)
Agree First w v = (w.value ≡ v.value) × (w.place ≡ v.place) × (w.first ≡ v.first)
Agree Both w v = (w.value ≡ v.value) × (w.place ≡ v.place) × (w.whole ≡ v.whole) × (w.first ≡ v.first)

-- among known tokens: a name, the builder of an instance with its factory, or the structure of a type
abbrev pub row_need : Mark → Need
row_need Ident = Whole
row_need (Pair second.Build) = Both
row_need (Pair second.Carried) = First
row_need _ = Nothing

-- elsewhere: a name, of one part or of two
abbrev pub name_need : Mark → Need
name_need Ident = Whole
name_need (Pair s) = Whole
name_need _ = Nothing

-- what the next step reads
abbrev pub need : State → Mark → Need
need begin m = Nothing
need (take d n f) m = row_need m
need (either d n f e o g) m = row_need m
need s m = name_need m

-- whether a known token has to come
abbrev pub is_row : State → Bool
is_row (take d n f) = true
is_row (either d n f e o g) = true
is_row s = false
