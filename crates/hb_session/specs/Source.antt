-- The form of a source: its tokens and its sentences, or why it has none.
use Rattle.std.specs.Prelude.{◌≡◌, ℕ, ◌⊎◌, Bool, IsTrue, List, length, drop, min, nat_eq, ◌||◌, codes}
use Rattle.std.specs.List.{starts_with}
use Rattle.hb_base.specs.declared.span.Span.{Span}
use Rattle.hb_env.specs.declared.entry.Entry.{Entry}
use Rattle.hb_env.specs.declared.refusal.What.{What}
use Rattle.hb_env.specs.declared.refusal.What.TheVariants.{Utf8, Lex, Syntax, TooDeep, TooMany, NoMemory}
use Rattle.hb_lex.specs.declared.token.Token.{Token}
use Rattle.hb_lex.specs.declared.error.LexRefused.TheVariants as lex
use Rattle.hb_lex.specs.Text.{HasTokens, rules}
use Rattle.hb_lex.specs.Places as places
use Rattle.hb_libfile.specs.Format.{library_bytes}
use Rattle.hb_parse.specs.Answers as grammar
use Rattle.hb_parse.specs.Answers.{ReadsAs, AddsRead}
use Rattle.hb_parse.specs.declared.error.ParseRefused.{ParseRefused}
use Rattle.hb_parse.specs.declared.error.ParseRefused.TheVariants as parse
use Rattle.hb_raw.specs.Sentence.{Sentence}

-- the place at a byte of a file
abbrev pub at_byte : (file byte : ℕ) → Span
at_byte i n = record { file = i; from = n; to = n }

-- the source with the number i has these sentences, whose names have these numbers
pub record IsSource (i : ℕ) (bytes : List ℕ) (N : List (List ℕ)) (cs : List Sentence) : Type 0 where
  pub tokens : List Token
  pub read : HasTokens (rules i 255) bytes tokens
  pub form : ReadsAs N bytes tokens cs

-- there are no further names, or each is one that the tokens of the source need which were read
abbrev pub NamesAreRead : ℕ → List ℕ → (old new : List (List ℕ)) → Type 0
NamesAreRead i bytes old new = (new ≡ old) ⊎ ((ts : List Token) × HasTokens (rules i 255) bytes ts × AddsRead old new bytes ts)

-- no token goes on with the byte at the place
pub record NoToken (i : ℕ) (bytes : List ℕ) (y : Span) : Type 0 where
  pub refuses : places.Refuses (rules i 255) bytes (lex.Lex y.from)
  pub place : y ≡ at_byte i y.from

-- the bytes have tokens that are no sentences, for this cause
pub record NoSentences (i : ℕ) (bytes : List ℕ) (N : List (List ℕ)) (e : ParseRefused) : Type 0 where
  pub tokens : List Token
  pub read : HasTokens (rules i 255) bytes tokens
  pub refuses : grammar.Refuses N bytes tokens e

-- why the form of a source is refused, where these names are held
abbrev pub FormCause : ℕ → List ℕ → List (List ℕ) → Span → What → Type 0
FormCause i bytes N y Utf8 = places.Refuses (rules i 255) bytes (lex.Utf8 y.from) × (y ≡ at_byte i y.from)
FormCause i bytes N y Lex = NoToken i bytes y
FormCause i bytes N y Syntax = NoSentences i bytes N (parse.Syntax y)
FormCause i bytes N y TooDeep = NoSentences i bytes N (parse.TooDeep y)
FormCause i bytes N y (TooMany c) = NoSentences i bytes N (parse.TooMany c y)
FormCause i bytes N y NoMemory = Unit {0}
FormCause i bytes N y _ = ⊥

-- the first word of the sentence of a notation stands at the byte
abbrev pub begins_notation : List ℕ → ℕ → Bool
begins_notation bytes n =
    starts_with nat_eq (drop (min n (length bytes)) bytes) (codes "Infix")
    || starts_with nat_eq (drop (min n (length bytes)) bytes) (codes "Prefix")

-- so is a source refused without notations that may have some: where it has no tokens without operators, or at the
-- first word of a notation
abbrev pub StopsAtNotation : List ℕ → Span → What → Type 0
StopsAtNotation bytes y Lex = Unit {0}
StopsAtNotation bytes y Syntax = IsTrue (begins_notation bytes y.from)
StopsAtNotation bytes y _ = ⊥

pub record MayHaveNotations (i : ℕ) (bytes : List ℕ) : Type 0 where
  pub names : List (List ℕ)
  pub place : Span
  pub what : What
  pub cause : FormCause i bytes names place what
  pub stops : StopsAtNotation bytes place what

-- the source has these sentences, unless it has notations: of those nothing is said
abbrev pub IsSourceOf : ℕ → List ℕ → List (List ℕ) → List Sentence → Type 0
IsSourceOf i bytes N cs = IsSource i bytes N cs ⊎ MayHaveNotations i bytes

-- the bytes are those of a library of either version, with these names and entries
abbrev pub IsLibrary : List ℕ → List (List ℕ) → List Entry → Type 0
IsLibrary bytes N es = (second : Bool) × (bytes ≡ library_bytes second N es)
