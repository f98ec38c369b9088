-- Where a text stops being a text of tokens, by the relation between texts and tokens alone.
use Rattle.std.specs.Prelude.{◌≡◌, ℕ, ◌+◌, ◌<◌, List, ◌++◌, length, take, IsUtf8}
use Rattle.std.specs.Str.{IsValidUpTo}
use Rattle.hb_lex.specs.declared.token.Token.{Token}
use Rattle.hb_lex.specs.declared.error.LexRefused.{LexRefused}
use Rattle.hb_lex.specs.declared.error.LexRefused.TheVariants.{Utf8, Lex, NoMemory}
use Rattle.hb_lex.specs.Text.{Rules, HasTokens}

-- the bytes begin a text of tokens
abbrev pub Begins : Rules → List ℕ → Type 0
Begins r bytes = (more : List ℕ) × (ts : List Token) × HasTokens r (bytes ++ more) ts

-- The first place without a way on: the bytes before it begin a text of tokens; with the byte
-- there, or at the end of the file, they don't.
pub data StopsAt (r : Rules) (bytes : List ℕ) (at : ℕ) : Type 0 where
  at_byte : at < length bytes → Begins r (take at bytes) → ¬ (Begins r (take (at + 1) bytes)) → StopsAt r bytes at
  at_end : at ≡ length bytes → Begins r bytes → ((ts : List Token) → ¬ (HasTokens r bytes ts)) → StopsAt r bytes at

-- why a text is refused
abbrev pub Refuses : Rules → List ℕ → LexRefused → Type 0
Refuses r bytes (Utf8 at) = IsValidUpTo bytes at
Refuses r bytes (Lex at) = IsUtf8 bytes × StopsAt r bytes at
Refuses r bytes NoMemory = Unit {0}

-- The law: a text has at most one list of tokens.
abbrev pub OneReading : Type 0
OneReading = (r : Rules) (bytes : List ℕ) (ts us : List Token)
    → HasTokens r bytes ts → HasTokens r bytes us → ts ≡ us
