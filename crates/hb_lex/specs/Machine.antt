-- The reader of tokens, byte by byte: it knows no fault but that there is no way on.
use Rattle.std.specs.Prelude.{ℕ, ◌+◌, Bool, true, false, ltb, List, [], ◌∷◌, ◌++◌, length, zero, suc, Option, Some, None}
use Rattle.hb_lex.specs.declared.class.Class.TheVariants.{Alpha, Digit, Prime, Blank, Point, Star, Open, Close, Colon, Equals, Greater, Dash, Single}
use Rattle.hb_lex.specs.declared.token.Token.{Token}
use Rattle.hb_lex.specs.declared.token.TokenKind.{TokenKind}
use Rattle.hb_lex.specs.declared.token.TokenKind.TheVariants.{Name, Number, Symbol, End}
use Rattle.hb_lex.specs.Letters.{Letter, letter}
use Rattle.hb_lex.specs.Words.{word_kind}
use Rattle.hb_lex.specs.Text.{Rules, token}

-- what is under way: `f` is the place where the token began
pub data Doing : Type 0 where
  between : Doing
  in_word : (f : ℕ) → (w : List ℕ) → Doing
  -- a name of one part, which ends at p, and a point behind it
  word_point : (f p : ℕ) → Doing
  in_second : (f : ℕ) → (w : List ℕ) → Doing
  in_number : (f : ℕ) → Doing
  opened : (f : ℕ) → Doing
  coloned : (f : ℕ) → Doing
  -- `-` or `=`
  arrow_begun : (f : ℕ) → Doing
  pointed : (f : ℕ) → Doing
  point_opened : (f : ℕ) → Doing
  -- in a comment with d further ones open inside it, also after a `*` or a `(`
  comment : (d : ℕ) → Doing
  comment_star : (d : ℕ) → Doing
  comment_open : (d : ℕ) → Doing

-- the tokens so far, and what is under way
pub data Reading : Type 0 where
  at : List Token → Doing → Reading

-- an identifier that grows where there is room
abbrev pub grown : Bool → Reading → Option Reading
grown true next = Some next
grown false next = None

-- the letter at place n, where no token is under way
abbrev pub start : Rules → List Token → ℕ → Letter → Option Reading
start r ts n (letter Alpha b) = grown (ltb 0 r.longest) (at ts (in_word n (b ∷ [])))
start r ts n (letter Digit b) = Some (at ts (in_number n))
start r ts n (letter Blank b) = Some (at ts between)
start r ts n (letter Point b) = Some (at ts (pointed n))
start r ts n (letter Open b) = Some (at ts (opened n))
start r ts n (letter Close b) = Some (at (ts ++ (token r Symbol n (n + 1) ∷ [])) between)
start r ts n (letter Colon b) = Some (at ts (coloned n))
start r ts n (letter Equals b) = Some (at ts (arrow_begun n))
start r ts n (letter Dash b) = Some (at ts (arrow_begun n))
start r ts n (letter Single b) = Some (at (ts ++ (token r Symbol n (n + 1) ∷ [])) between)
start r ts n _ = None

-- a point at place n behind a word: only a name of one part may go on
abbrev pub word_ended : Rules → List Token → ℕ → ℕ → TokenKind → Option Reading
word_ended r ts f n Name = Some (at ts (word_point f n))
word_ended r ts f n k = Some (at (ts ++ (token r k f n ∷ [])) (pointed n))

abbrev pub after_word : Rules → List Token → ℕ → List ℕ → ℕ → Letter → Option Reading
after_word r ts f w n (letter Alpha b) = grown (ltb (length w) r.longest) (at ts (in_word f (w ++ (b ∷ []))))
after_word r ts f w n (letter Digit b) = grown (ltb (length w) r.longest) (at ts (in_word f (w ++ (b ∷ []))))
after_word r ts f w n (letter Prime b) = grown (ltb (length w) r.longest) (at ts (in_word f (w ++ (b ∷ []))))
after_word r ts f w n (letter Point b) = word_ended r ts f n (word_kind w)
after_word r ts f w n l = start r (ts ++ (token r (word_kind w) f n ∷ [])) n l

abbrev pub after_second : Rules → List Token → ℕ → List ℕ → ℕ → Letter → Option Reading
after_second r ts f w n (letter Alpha b) = grown (ltb (length w) r.longest) (at ts (in_second f (w ++ (b ∷ []))))
after_second r ts f w n (letter Digit b) = grown (ltb (length w) r.longest) (at ts (in_second f (w ++ (b ∷ []))))
after_second r ts f w n (letter Prime b) = grown (ltb (length w) r.longest) (at ts (in_second f (w ++ (b ∷ []))))
after_second r ts f w n l = start r (ts ++ (token r Name f n ∷ [])) n l

-- behind a point, which no name takes: an end, or the beginning of `.(`
abbrev pub after_point : Rules → List Token → ℕ → ℕ → Letter → Option Reading
after_point r ts f n (letter Blank b) = Some (at (ts ++ (token r End f n ∷ [])) between)
after_point r ts f n (letter Open b) = Some (at ts (point_opened f))
after_point r ts f n _ = None

abbrev pub after_word_point : Rules → List Token → ℕ → ℕ → ℕ → Letter → Option Reading
after_word_point r ts f p n (letter Alpha b) = grown (ltb 0 r.longest) (at ts (in_second f (b ∷ [])))
after_word_point r ts f p n l = after_point r (ts ++ (token r Name f p ∷ [])) p n l

abbrev pub after_number : Rules → List Token → ℕ → ℕ → Letter → Option Reading
after_number r ts f n (letter Digit b) = Some (at ts (in_number f))
after_number r ts f n l = start r (ts ++ (token r Number f n ∷ [])) n l

abbrev pub after_open : Rules → List Token → ℕ → ℕ → Letter → Option Reading
after_open r ts f n (letter Star b) = Some (at ts (comment 0))
after_open r ts f n l = start r (ts ++ (token r Symbol f n ∷ [])) n l

abbrev pub after_colon : Rules → List Token → ℕ → ℕ → Letter → Option Reading
after_colon r ts f n (letter Equals b) = Some (at (ts ++ (token r Symbol f (n + 1) ∷ [])) between)
after_colon r ts f n l = start r (ts ++ (token r Symbol f n ∷ [])) n l

abbrev pub after_arrow_begun : Rules → List Token → ℕ → ℕ → Letter → Option Reading
after_arrow_begun r ts f n (letter Greater b) = Some (at (ts ++ (token r Symbol f (n + 1) ∷ [])) between)
after_arrow_begun r ts f n _ = None

-- a point before a comment is an end
abbrev pub after_point_open : Rules → List Token → ℕ → ℕ → Letter → Option Reading
after_point_open r ts f n (letter Star b) = Some (at (ts ++ (token r End f (f + 1) ∷ [])) (comment 0))
after_point_open r ts f n l = start r (ts ++ (token r Symbol f n ∷ [])) n l

abbrev pub closed : ℕ → Doing
closed zero = between
closed (suc d) = comment d

abbrev pub in_comment : ℕ → Letter → Doing
in_comment d (letter Star b) = comment_star d
in_comment d (letter Open b) = comment_open d
in_comment d _ = comment d

abbrev pub after_comment_star : ℕ → Letter → Doing
after_comment_star d (letter Close b) = closed d
after_comment_star d l = in_comment d l

abbrev pub after_comment_open : ℕ → Letter → Doing
after_comment_open d (letter Star b) = comment (suc d)
after_comment_open d l = in_comment d l

-- the letter at place n
abbrev pub step : Rules → List Token → Doing → ℕ → Letter → Option Reading
step r ts between n l = start r ts n l
step r ts (in_word f w) n l = after_word r ts f w n l
step r ts (word_point f p) n l = after_word_point r ts f p n l
step r ts (in_second f w) n l = after_second r ts f w n l
step r ts (in_number f) n l = after_number r ts f n l
step r ts (opened f) n l = after_open r ts f n l
step r ts (coloned f) n l = after_colon r ts f n l
step r ts (arrow_begun f) n l = after_arrow_begun r ts f n l
step r ts (pointed f) n l = after_point r ts f n l
step r ts (point_opened f) n l = after_point_open r ts f n l
step r ts (comment d) n l = Some (at ts (in_comment d l))
step r ts (comment_star d) n l = Some (at ts (after_comment_star d l))
step r ts (comment_open d) n l = Some (at ts (after_comment_open d l))

-- the tokens of a text that ends between tokens
abbrev pub ended : Option Reading → Option (List Token)
ended (Some (at ts between)) = Some ts
ended _ = None

-- the end of a file acts as one more line feed
abbrev pub finish : Rules → List Token → Doing → ℕ → Option (List Token)
finish r ts s n = ended (step r ts s n (letter Blank 10))

-- the tokens of the letters from place n on
abbrev pub run : Rules → Option Reading → ℕ → List Letter → Option (List Token)
run r None n us = None
run r (Some (at ts s)) n [] = finish r ts s n
run r (Some (at ts s)) n (l ∷ us) = run r (step r ts s n l) (n + 1) us
