-- Texts of tokens, by productions. Places are bytes from 0. Each family says: the letters at
-- place n begin with a thing that ends at place m, before `rest`.
use Rattle.std.specs.Prelude.{◌≡◌, ℕ, ◌+◌, ◌<◌, List, [], ◌∷◌, ◌++◌, length, suc}
use Rattle.hb_lex.specs.declared.class.Class.{Class}
use Rattle.hb_lex.specs.declared.class.Class.TheVariants.{Alpha, Digit, Prime, Blank, Point, Star, Open, Close, Colon, Equals, Greater, Dash, Single}
use Rattle.hb_lex.specs.declared.token.Token.{Token}
use Rattle.hb_lex.specs.declared.token.TokenKind.{TokenKind}
use Rattle.hb_lex.specs.declared.token.TokenKind.TheVariants.{Name, Number, Symbol, End}
use Rattle.hb_lex.specs.Letters.{Letter, letter, letters}
use Rattle.hb_lex.specs.Words.{word_kind}

-- the number of the file, and the most bytes of an identifier
pub record Rules : Type 0 where
  pub file : ℕ
  pub longest : ℕ

abbrev pub rules : ℕ → ℕ → Rules
rules file longest = record { file = file; longest = longest }

abbrev pub token : Rules → TokenKind → ℕ → ℕ → Token
token r k n m = record { kind = k; span = record { file = r.file; from = n; to = m } }

-- an identifier goes on with letters, `_`, digits and primes
abbrev pub IsPart : Class → Type 0
IsPart Alpha = Unit {0}
IsPart Digit = Unit {0}
IsPart Prime = Unit {0}
IsPart _ = ⊥

-- The longest token is taken: what may not follow a token.
abbrev pub NoPart : List Letter → Type 0
NoPart (letter Alpha b ∷ us) = ⊥
NoPart (letter Digit b ∷ us) = ⊥
NoPart (letter Prime b ∷ us) = ⊥
NoPart _ = Unit {0}

abbrev pub NoDigit : List Letter → Type 0
NoDigit (letter Digit b ∷ us) = ⊥
NoDigit _ = Unit {0}

abbrev pub NoStar : List Letter → Type 0
NoStar (letter Star b ∷ us) = ⊥
NoStar _ = Unit {0}

abbrev pub NoEquals : List Letter → Type 0
NoEquals (letter Equals b ∷ us) = ⊥
NoEquals _ = Unit {0}

-- a point directly after a name of one part and directly before a letter or `_` joins the two
abbrev pub NoSecond : TokenKind → List Letter → Type 0
NoSecond Name (letter Alpha b ∷ us) = ⊥
NoSecond _ _ = Unit {0}

abbrev pub NotJoined : List Letter → TokenKind → Type 0
NotJoined (letter Point b ∷ us) k = NoSecond k us
NotJoined _ k = Unit {0}

-- the point of an end stands before blank space, a comment, or the end of the file
abbrev pub AfterEnd : List Letter → Type 0
AfterEnd [] = Unit {0}
AfterEnd (letter Blank b ∷ us) = Unit {0}
AfterEnd (letter Open a ∷ (letter Star b ∷ us)) = Unit {0}
AfterEnd _ = ⊥

-- an identifier or keyword of the bytes w: a letter or `_`, and what it goes on with
pub data Word (r : Rules) : ℕ → List Letter → List ℕ → ℕ → List Letter → Type 0 where
  first : {n b : ℕ} {us : List Letter} → 0 < r.longest → Word r n (letter Alpha b ∷ us) (b ∷ []) (n + 1) us
  more : {n m b : ℕ} {us rest : List Letter} {w : List ℕ} {c : Class}
      → Word r n us w m (letter c b ∷ rest) → IsPart c → length w < r.longest
      → Word r n us (w ++ (b ∷ [])) (m + 1) rest

pub data Digits : ℕ → List Letter → ℕ → List Letter → Type 0 where
  one : {n b : ℕ} {us : List Letter} → Digits n (letter Digit b ∷ us) (n + 1) us
  further : {n m b : ℕ} {us rest : List Letter}
      → Digits n us m (letter Digit b ∷ rest) → Digits n us (m + 1) rest

-- in a comment `(*` and `*)` are no bytes of their own
abbrev pub IsInner : Class → List Letter → Type 0
IsInner Open (letter Star b ∷ us) = ⊥
IsInner Star (letter Close b ∷ us) = ⊥
IsInner _ _ = Unit {0}

-- a comment that isn't closed yet, with d further ones open inside it
pub data Opened : ℕ → List Letter → ℕ → ℕ → List Letter → Type 0 where
  begins : {n a b : ℕ} {us : List Letter}
      → Opened n (letter Open a ∷ (letter Star b ∷ us)) 0 (n + 1 + 1) us
  opens : {n d m a b : ℕ} {us rest : List Letter}
      → Opened n us d m (letter Open a ∷ (letter Star b ∷ rest)) → Opened n us (suc d) (m + 1 + 1) rest
  closes : {n d m a b : ℕ} {us rest : List Letter}
      → Opened n us (suc d) m (letter Star a ∷ (letter Close b ∷ rest)) → Opened n us d (m + 1 + 1) rest
  goes_on : {n d m b : ℕ} {us rest : List Letter} {c : Class}
      → Opened n us d m (letter c b ∷ rest) → IsInner c rest → Opened n us d (m + 1) rest

-- one token of a kind
pub data Spells (r : Rules) : ℕ → List Letter → TokenKind → ℕ → List Letter → Type 0 where
  word : {n m : ℕ} {us rest : List Letter} {w : List ℕ}
      → Word r n us w m rest → NoPart rest → NotJoined rest (word_kind w)
      → Spells r n us (word_kind w) m rest
  -- two identifiers joined by a point
  joined : {n m l b : ℕ} {us vs rest : List Letter} {v w : List ℕ}
      → Word r n us v m (letter Point b ∷ vs) → word_kind v ≡ Name
      → Word r (m + 1) vs w l rest → NoPart rest → Spells r n us Name l rest
  number : {n m : ℕ} {us rest : List Letter} → Digits n us m rest → NoDigit rest → Spells r n us Number m rest
  -- `{ } , ; & @ )`
  single : {n b : ℕ} {rest : List Letter} → Spells r n (letter Single b ∷ rest) Symbol (n + 1) rest
  close : {n b : ℕ} {rest : List Letter} → Spells r n (letter Close b ∷ rest) Symbol (n + 1) rest
  -- `(`, `:`, `:=`, `->`, `=>` and `.(`
  bracket : {n b : ℕ} {rest : List Letter} → NoStar rest → Spells r n (letter Open b ∷ rest) Symbol (n + 1) rest
  colon : {n b : ℕ} {rest : List Letter} → NoEquals rest → Spells r n (letter Colon b ∷ rest) Symbol (n + 1) rest
  becomes : {n a b : ℕ} {rest : List Letter}
      → Spells r n (letter Colon a ∷ (letter Equals b ∷ rest)) Symbol (n + 1 + 1) rest
  arrow : {n a b : ℕ} {rest : List Letter}
      → Spells r n (letter Dash a ∷ (letter Greater b ∷ rest)) Symbol (n + 1 + 1) rest
  gives : {n a b : ℕ} {rest : List Letter}
      → Spells r n (letter Equals a ∷ (letter Greater b ∷ rest)) Symbol (n + 1 + 1) rest
  projection : {n a b : ℕ} {rest : List Letter} → NoStar rest
      → Spells r n (letter Point a ∷ (letter Open b ∷ rest)) Symbol (n + 1 + 1) rest
  ending : {n b : ℕ} {rest : List Letter} → AfterEnd rest → Spells r n (letter Point b ∷ rest) End (n + 1) rest

-- `all` begins with the tokens ts, comments and blank space, up to place n, before the rest
pub data IsFront (r : Rules) (all : List Letter) : List Token → ℕ → List Letter → Type 0 where
  nothing : IsFront r all [] 0 all
  blank : {n b : ℕ} {ts : List Token} {us : List Letter}
      → IsFront r all ts n (letter Blank b ∷ us) → IsFront r all ts (n + 1) us
  comment : {n m a b : ℕ} {ts : List Token} {us rest : List Letter}
      → IsFront r all ts n us → Opened n us 0 m (letter Star a ∷ (letter Close b ∷ rest))
      → IsFront r all ts (m + 1 + 1) rest
  one_token : {n m : ℕ} {ts : List Token} {us rest : List Letter} {k : TokenKind}
      → IsFront r all ts n us → Spells r n us k m rest
      → IsFront r all (ts ++ (token r k n m ∷ [])) m rest

-- the text of these bytes has these tokens
abbrev pub HasTokens : Rules → List ℕ → List Token → Type 0
HasTokens r bytes ts = (n : ℕ) × IsFront r (letters bytes) ts n []
