-- Tokens as the grammar sees them.
use Rattle.std.specs.Prelude.{ℕ, Option, Some, None}
use Rattle.hb_base.specs.declared.name_id.NameId.{NameId}
use Rattle.hb_base.specs.declared.span.Span.{Span}
use Rattle.hb_raw.specs.declared.word.Word.{Word}
use Rattle.hb_grammar.specs.declared.mark.Mark.{Mark}
use Rattle.hb_grammar.specs.declared.mark.Mark.TheVariants.{Ident, Pair, Hole}

-- what a token says: the number of its text as a name, that of its first part, the value of its
-- digits (64 for each that is above 63), and its place
pub record Sign : Type 0 where
  pub whole : NameId
  pub first : NameId
  pub value : ℕ
  pub place : Span

-- A token with its nesting, and which argument of an application it begins (0 for none). The
-- argument that `late` begins began a token before.
pub data Leaf : Type 0 where
  leaf : Mark → Sign → ℕ → ℕ → Leaf
  late : Mark → Sign → ℕ → ℕ → Leaf

abbrev pub word : Sign → Word
word w = record { name = w.whole; span = w.place }

abbrev pub first_word : Sign → Word
first_word w = record { name = w.first; span = w.place }

-- a name, of one part or of two
abbrev pub IsName : Mark → Type 0
IsName Ident = Unit {0}
IsName (Pair s) = Unit {0}
IsName _ = ⊥

-- what binds: a name of one part, or `_`
abbrev pub IsBound : Mark → Type 0
IsBound Ident = Unit {0}
IsBound Hole = Unit {0}
IsBound _ = ⊥

abbrev pub bound_name : Mark → Sign → Option NameId
bound_name Ident w = Some w.whole
bound_name _ w = None

abbrev pub bound : Mark → Sign → Option NameId × Span
bound m w = (bound_name m w, w.place)

abbrev pub named : Mark → Sign → Option Word
named Ident w = Some (word w)
named _ w = None
