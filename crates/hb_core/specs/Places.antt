-- Where a text is refused.
use Rattle.std.specs.Prelude.{◌≡◌, ℕ, ◌⊎◌, List, length, Some, slice_get, map}
use Rattle.hb_base.specs.declared.span.Span.{Span}
use Rattle.hb_lex.specs.Places as lex
use Rattle.hb_lex.specs.Text.{Rules, HasTokens}
use Rattle.hb_lex.specs.declared.error.LexRefused.{LexRefused}
use Rattle.hb_lex.specs.declared.error.LexRefused.TheVariants as lexed
use Rattle.hb_lex.specs.declared.token.Token.{Token}
use Rattle.hb_core.specs.declared.error.CoreRefused.{CoreRefused}
use Rattle.hb_core.specs.declared.error.CoreRefused.TheVariants.{Utf8, Lex, CoreSyntax, TooDeep, UnknownName, TooMany, NoMemory}

-- the end of a text
abbrev pub end_of : Rules → List ℕ → Span
end_of r bytes = record { file = r.file; from = length bytes; to = length bytes }

-- the place is that of a token
abbrev pub IsToken : List Token → Span → Type 0
IsToken ts at = (i : ℕ) × (slice_get (map (λ t. t.span) ts) i ≡ Some at)

-- the place is that of a token, or the end of the text
abbrev pub IsTokenOrEnd : Rules → List ℕ → List Token → Span → Type 0
IsTokenOrEnd r bytes ts at = (at ≡ end_of r bytes) ⊎ IsToken ts at

-- where the text of these tokens is refused
abbrev pub StandsAt : Rules → List ℕ → List Token → CoreRefused → Type 0
StandsAt r bytes ts (Utf8 at) = ⊥
StandsAt r bytes ts (Lex at) = ⊥
StandsAt r bytes ts (CoreSyntax at) = IsTokenOrEnd r bytes ts at
StandsAt r bytes ts (TooDeep at) = IsToken ts at
StandsAt r bytes ts (UnknownName n at) = IsToken ts at
StandsAt r bytes ts (TooMany c at) = IsToken ts at
StandsAt r bytes ts NoMemory = Unit {0}

-- a text is refused where it has no tokens, or else at one of its tokens or at its end
abbrev pub RefusedAt : Rules → List ℕ → CoreRefused → Type 0
RefusedAt r bytes (Utf8 at) = lex.Refuses r bytes (lexed.Utf8 at)
RefusedAt r bytes (Lex at) = lex.Refuses r bytes (lexed.Lex at)
RefusedAt r bytes NoMemory = Unit {0}
RefusedAt r bytes e = (ts : List Token) × HasTokens r bytes ts × StandsAt r bytes ts e

-- a fault of tokens as that of a core text
abbrev pub lexed_as : LexRefused → CoreRefused
lexed_as (lexed.Utf8 at) = Utf8 at
lexed_as (lexed.Lex at) = Lex at
lexed_as lexed.NoMemory = NoMemory
