-- What a file's tokens are answered: their commands, or why there are none, by the grammar alone.
use Rattle.std.specs.Prelude.{◌≡◌, ℕ, ◌+◌, ◌^◌, ◌<◌, ◌≤◌, ◌⊎◌, List, [], ◌∷◌, ◌++◌, length, take, Option, Some, None, false, slice_get}
use Rattle.hb_base.specs.declared.span.Span.{Span}
use Rattle.hb_base.specs.declared.count.Count.TheVariants as counts
use Rattle.hb_base.specs.Names.{is_named}
use Rattle.hb_raw.specs.Sentence.{Sentence}
use Rattle.hb_lex.specs.declared.token.Token.{Token}
use Rattle.hb_lex.specs.Text.{rules, HasTokens}
use Rattle.hb_grammar.specs.Leaf.{Leaf}
use Rattle.hb_grammar.specs.Grammar.{IsFile}
use Rattle.hb_grammar.specs.Places.{Seen, tokens, Most, Reads, Front, SyntaxAt, DeepAt}
use Rattle.hb_parse.specs.declared.error.ParseRefused.{ParseRefused}
use Rattle.hb_parse.specs.declared.error.ParseRefused.TheVariants.{Syntax, TooDeep, TooMany, NoMemory}
use Rattle.hb_parse.specs.Marks.{piece, first_part}
use Rattle.hb_parse.specs.Uses.{uses}
use Rattle.hb_parse.specs.Signs.{Numbering, Agrees, file_of}

-- the greatest nesting, and the most arguments of an application
abbrev pub limits : Most
limits = record { nested = 200; applied = 255 }

-- the tokens are those of the bytes, which are at most 64 MiB
pub record AreTokens (bytes : List ℕ) (ts : List Token) : Type 0 where
  pub small : length bytes ≤ 2 ^ 26
  pub file : ℕ
  pub longest : ℕ
  pub read : HasTokens (rules file longest) bytes ts

-- the number of the file
abbrev pub file_number : List Token → ℕ
file_number [] = 0
file_number (t ∷ ts) = t.span.file

-- the end of the file, twice
abbrev pub file_end : List ℕ → List Token → Span
file_end bytes ts = record { file = file_number ts; from = length bytes; to = length bytes }

abbrev pub span_or : Span → Option Token → Span
span_or end None = end
span_or end (Some t) = t.span

-- the place of token number i, or the end of the file behind the last
abbrev pub place_at : List ℕ → List Token → ℕ → Span
place_at bytes ts i = span_or (file_end bytes ts) (slice_get ts i)

-- with the numbers of these names the tokens read as these sentences
abbrev pub ReadsAs : List (List ℕ) → List ℕ → List Token → List Sentence → Type 0
ReadsAs names bytes ts cs = (ν : Numbering) → Agrees ν names → Reads limits (file_of ν bytes ts) cs

-- Syntax stands at the first token without a way on, or at the end of the file
pub record IsSyntaxAt (names : List (List ℕ)) (bytes : List ℕ) (ts : List Token) (at : Span) : Type 0 where
  pub index : ℕ
  pub place : at ≡ place_at bytes ts index
  pub stops : (ν : Numbering) → Agrees ν names → SyntaxAt limits (file_of ν bytes ts) index

-- TooDeep stands at the first token that passes a limit
pub record IsDeepAt (names : List (List ℕ)) (bytes : List ℕ) (ts : List Token) (at : Span) : Type 0 where
  pub index : ℕ
  pub inside : index < length ts
  pub place : at ≡ place_at bytes ts index
  pub passes : (ν : Numbering) → Agrees ν names → DeepAt limits (file_of ν bytes ts) index

-- each file that begins with the tokens up to number i has the text among its names
abbrev pub IsNeeded : List (List ℕ) → List ℕ → List Token → ℕ → List ℕ → Type 0
IsNeeded names bytes ts i text =
    (ν : Numbering) → Agrees ν names → (ls : List Leaf) (cs : List Sentence) (more : List Seen)
    → tokens ls ≡ take (i + 1) (file_of ν bytes ts) ++ more → IsFile ls cs [] → 0 < uses (ν text).0 cs

-- TooMany stands at the first token that needs a new name where 65,535 are held; up to it the
-- tokens begin a file, within the limits
pub record IsFullAt (names : List (List ℕ)) (bytes : List ℕ) (ts : List Token) (at : Span) : Type 0 where
  pub index : ℕ
  pub inside : index < length ts
  pub place : at ≡ place_at bytes ts index
  pub begins : (ν : Numbering) → Agrees ν names → Front limits (take (index + 1) (file_of ν bytes ts))
  pub full : 65535 ≤ length names
  pub text : List ℕ
  pub needed : IsNeeded names bytes ts index text
  pub absent : is_named names text ≡ false

-- why the tokens are refused, where these names are held
abbrev pub Refuses : List (List ℕ) → List ℕ → List Token → ParseRefused → Type 0
Refuses names bytes ts (Syntax at) = IsSyntaxAt names bytes ts at
Refuses names bytes ts (TooDeep at) = IsDeepAt names bytes ts at
Refuses names bytes ts (TooMany count at) = (count ≡ counts.Names) × IsFullAt names bytes ts at
Refuses names bytes ts NoMemory = Unit {0}

-- the names that the sentences hold are held
abbrev pub AreHeld : List (List ℕ) → List Sentence → Type 0
AreHeld names cs = (i : ℕ) → length names ≤ i → uses i cs ≡ 0

-- each new name stands in the sentences
abbrev pub AddsOnly : List (List ℕ) → List (List ℕ) → List Sentence → Type 0
AddsOnly old new cs = (i : ℕ) → length old ≤ i → i < length new → 0 < uses i cs

-- each file that begins with the first n tokens has name number j among its names
abbrev pub IsNeededBy : List (List ℕ) → List ℕ → List Token → ℕ → ℕ → Type 0
IsNeededBy names bytes ts n j =
    (ν : Numbering) → Agrees ν names → (ls : List Leaf) (cs : List Sentence) (more : List Seen)
    → tokens ls ≡ take n (file_of ν bytes ts) ++ more → IsFile ls cs [] → 0 < uses j cs

-- name number j is the text of token number n, or the first part of it
abbrev pub IsOfToken : List (List ℕ) → List ℕ → List Token → ℕ → ℕ → Type 0
IsOfToken names bytes ts n j =
    (t : Token) × (slice_get ts n ≡ Some t)
    × ((slice_get names j ≡ Some (piece bytes t.span)) ⊎ (slice_get names j ≡ Some (first_part (piece bytes t.span))))

-- The tokens before number `index` begin a file, and each new name is one that they need, or one of that token.
pub record AddsRead (old new : List (List ℕ)) (bytes : List ℕ) (ts : List Token) : Type 0 where
  pub index : ℕ
  pub begins : (ν : Numbering) → Agrees ν new → Front limits (take index (file_of ν bytes ts))
  pub needed : (j : ℕ) → length old ≤ j → j < length new → IsNeededBy new bytes ts index j ⊎ IsOfToken new bytes ts index j

-- a fault of form
abbrev pub IsFormFault : ParseRefused → Type 0
IsFormFault (Syntax at) = Unit {0}
IsFormFault (TooDeep at) = Unit {0}
IsFormFault (TooMany count at) = ⊥
IsFormFault NoMemory = ⊥

-- the tokens read as no sentences, within the limits
abbrev pub ReadsNone : List (List ℕ) → List ℕ → List Token → Type 0
ReadsNone names bytes ts = (ν : Numbering) → Agrees ν names → (cs : List Sentence) → ¬ (Reads limits (file_of ν bytes ts) cs)
