-- The tokens of a file as the grammar sees them, for a numbering of names.
use Rattle.std.specs.Prelude.{◌≡◌, ℕ, List, map, Some, slice_get}
use Rattle.hb_base.specs.declared.name_id.NameId.{NameId}
use Rattle.hb_base.specs.declared.span.Span.{Span}
use Rattle.hb_base.specs.Names.{NumbersAreUnique}
use Rattle.hb_lex.specs.declared.token.Token.{Token}
use Rattle.hb_lex.specs.declared.token.TokenKind.{TokenKind}
use Rattle.hb_lex.specs.declared.token.TokenKind.TheVariants as kind
use Rattle.hb_grammar.specs.Leaf.{Sign}
use Rattle.hb_grammar.specs.Places.{Seen, seen}
use Rattle.hb_parse.specs.Marks.{piece, mark_of, first_part, level_of}

-- a number for each text
abbrev pub Numbering : Type 0
Numbering = List ℕ → NameId

-- each name that is held has its number
abbrev pub Agrees : Numbering → List (List ℕ) → Type 0
Agrees ν names = (text : List ℕ) (i : ℕ) → slice_get names i ≡ Some text → ν text ≡ record { 0 = i }

-- the value of a number's digits
abbrev pub value_of : TokenKind → List ℕ → ℕ
value_of kind.Number text = level_of text
value_of _ text = 0

-- what a token of the kind with this text says
abbrev pub sign_of : Numbering → TokenKind → List ℕ → Span → Sign
sign_of ν k text place = record {
  whole = ν text;
  first = ν (first_part text);
  value = value_of k text;
  place = place;
}

-- a token of the bytes as the grammar sees it
abbrev pub seen_of : Numbering → List ℕ → Token → Seen
seen_of ν bytes t = seen (mark_of t.kind (piece bytes t.span)) (sign_of ν t.kind (piece bytes t.span) t.span)

abbrev pub file_of : Numbering → List ℕ → List Token → List Seen
file_of ν bytes ts = map (seen_of ν bytes) ts

-- The law: names of which none stands twice have a numbering that agrees with them.
abbrev pub NumberingExists : Type 0
NumberingExists = (names : List (List ℕ)) → NumbersAreUnique names → (ν : Numbering) × Agrees ν names
