-- What the reader has gone through is what the productions say.
use Rattle.std.proofs.Common.{◌≡◌, ℕ, ◌+◌, ◌<◌, Bool, true, false, ltb, List, [], ◌∷◌, length, zero, suc, Option, Some, None, refl}
use Rattle.std.proofs.Common.{subst}
use Rattle.std.proofs.lemmas.Bool.{ltb-true}
use Rattle.hb_lex.specs.declared.class.Class.{Class}
use Rattle.hb_lex.specs.declared.class.Class.TheVariants.{Alpha, Digit, Prime, Blank, Point, Star, Open, Close, Colon, Equals, Greater, Dash, Single, Other}
use Rattle.hb_lex.specs.declared.token.Token.{Token}
use Rattle.hb_lex.specs.declared.token.TokenKind.{TokenKind}
use Rattle.hb_lex.specs.declared.token.TokenKind.TheVariants.{Name, Keyword, Hole, Number, Symbol, End, Operator, Quoted}
use Rattle.hb_lex.specs.Letters.{Letter, letter}
use Rattle.hb_lex.specs.Words.{word_kind}
use Rattle.hb_lex.specs.Text.{Rules, NoPart, NotJoined, Word, first, more, Digits, one, further, Opened, begins, opens, closes, goes_on, Spells, word, joined, number, single, close, bracket, colon, becomes, arrow, gives, projection, ending, IsFront, blank, comment as a_comment, one_token}
use Rattle.hb_lex.specs.Machine.{Doing, between, in_word, word_point, in_second, in_number, opened, coloned, arrow_begun, pointed, point_opened, comment, comment_star, comment_open, Reading, at, grown, start, word_ended, after_word, after_second, after_point, after_word_point, after_number, after_open, after_colon, after_arrow_begun, after_point_open, closed, in_comment, after_comment_star, after_comment_open, step, finish}

-- `all` is read up to place n, before the letters us, and this is under way
pub data Holds (r : Rules) (all : List Letter) : List Token → Doing → ℕ → List Letter → Type 0 where
  h_between : {n : ℕ} {ts : List Token} {us : List Letter} → IsFront r all ts n us → Holds r all ts between n us
  h_word : {f n : ℕ} {ts : List Token} {vs us : List Letter} {w : List ℕ}
      → IsFront r all ts f vs → Word r f vs w n us → Holds r all ts (in_word f w) n us
  h_point : {f p b : ℕ} {ts : List Token} {vs us : List Letter} {w : List ℕ}
      → IsFront r all ts f vs → Word r f vs w p (letter Point b ∷ us) → word_kind w ≡ Name
      → Holds r all ts (word_point f p) (p + 1) us
  h_second : {f p n b : ℕ} {ts : List Token} {vs xs us : List Letter} {v w : List ℕ}
      → IsFront r all ts f vs → Word r f vs v p (letter Point b ∷ xs) → word_kind v ≡ Name
      → Word r (p + 1) xs w n us → Holds r all ts (in_second f w) n us
  h_number : {f n : ℕ} {ts : List Token} {vs us : List Letter}
      → IsFront r all ts f vs → Digits f vs n us → Holds r all ts (in_number f) n us
  h_open : {f b : ℕ} {ts : List Token} {us : List Letter}
      → IsFront r all ts f (letter Open b ∷ us) → Holds r all ts (opened f) (f + 1) us
  h_colon : {f b : ℕ} {ts : List Token} {us : List Letter}
      → IsFront r all ts f (letter Colon b ∷ us) → Holds r all ts (coloned f) (f + 1) us
  h_dash : {f b : ℕ} {ts : List Token} {us : List Letter}
      → IsFront r all ts f (letter Dash b ∷ us) → Holds r all ts (arrow_begun f) (f + 1) us
  h_equals : {f b : ℕ} {ts : List Token} {us : List Letter}
      → IsFront r all ts f (letter Equals b ∷ us) → Holds r all ts (arrow_begun f) (f + 1) us
  h_pointed : {f b : ℕ} {ts : List Token} {us : List Letter}
      → IsFront r all ts f (letter Point b ∷ us) → Holds r all ts (pointed f) (f + 1) us
  h_point_open : {f a b : ℕ} {ts : List Token} {us : List Letter}
      → IsFront r all ts f (letter Point a ∷ (letter Open b ∷ us)) → Holds r all ts (point_opened f) (f + 1 + 1) us
  h_comment : {f n d : ℕ} {ts : List Token} {vs us : List Letter}
      → IsFront r all ts f vs → Opened f vs d n us → Holds r all ts (comment d) n us
  h_star : {f n d b : ℕ} {ts : List Token} {vs us : List Letter}
      → IsFront r all ts f vs → Opened f vs d n (letter Star b ∷ us) → Holds r all ts (comment_star d) (n + 1) us
  h_inner : {f n d b : ℕ} {ts : List Token} {vs us : List Letter}
      → IsFront r all ts f vs → Opened f vs d n (letter Open b ∷ us) → Holds r all ts (comment_open d) (n + 1) us

-- what is under way is so too after a step, if there is a way on
abbrev pub Then : Rules → List Letter → Option Reading → ℕ → List Letter → Type 0
Then r all None n us = Unit {0}
Then r all (Some (at ts s)) n us = Holds r all ts s n us

grown_holds : {r : Rules} {all : List Letter} {ts : List Token} {s : Doing} {n : ℕ} {us : List Letter}
    (k : ℕ) (b : Bool) → ltb k r.longest ≡ b → (k < r.longest → Holds r all ts s n us)
    → Then r all (grown b (at ts s)) n us
grown_holds {r = r} k true e h = h (ltb-true k r.longest e)
grown_holds k false e h = tt

start_holds : {r : Rules} {all : List Letter} {ts : List Token} {n b : ℕ} {us : List Letter} (c : Class)
    → IsFront r all ts n (letter c b ∷ us) → Then r all (start r ts n (letter c b)) (n + 1) us
start_holds {r = r} Alpha h = grown_holds 0 (ltb 0 r.longest) refl (λ l. h_word h (first l))
start_holds Digit h = h_number h one
start_holds Prime h = tt
start_holds Blank h = h_between (blank h)
start_holds Point h = h_pointed h
start_holds Star h = tt
start_holds Open h = h_open h
start_holds Close h = h_between (one_token h close)
start_holds Colon h = h_colon h
start_holds Equals h = h_equals h
start_holds Greater h = tt
start_holds Dash h = h_dash h
start_holds Single h = h_between (one_token h single)
start_holds Other h = tt

as_word : {r : Rules} {n m : ℕ} {us rest : List Letter} {w : List ℕ} {k : TokenKind} → word_kind w ≡ k
    → Word r n us w m rest → NoPart rest → NotJoined rest k → Spells r n us k m rest
as_word {r = r} {n = n} {m = m} {us = us} {rest = rest} e i p j =
    let P : TokenKind → Type 0 = λ x. NotJoined rest x → Spells r n us x m rest in
    subst P e (word i p) j

word_ended_holds : {r : Rules} {all : List Letter} {ts : List Token} {f n b : ℕ} {vs us : List Letter} {w : List ℕ}
    (k : TokenKind) → word_kind w ≡ k
    → IsFront r all ts f vs → Word r f vs w n (letter Point b ∷ us)
    → Then r all (word_ended r ts f n k) (n + 1) us
word_ended_holds Name e h i = h_point h i e
word_ended_holds Keyword e h i = h_pointed (one_token h (as_word e i tt tt))
word_ended_holds Hole e h i = h_pointed (one_token h (as_word e i tt tt))
word_ended_holds Number e h i = h_pointed (one_token h (as_word e i tt tt))
word_ended_holds Symbol e h i = h_pointed (one_token h (as_word e i tt tt))
word_ended_holds End e h i = h_pointed (one_token h (as_word e i tt tt))
word_ended_holds Operator e h i = h_pointed (one_token h (as_word e i tt tt))
word_ended_holds Quoted e h i = h_pointed (one_token h (as_word e i tt tt))

after_word_holds : {r : Rules} {all : List Letter} {ts : List Token} {f n b : ℕ} {vs us : List Letter} {w : List ℕ} (c : Class)
    → IsFront r all ts f vs → Word r f vs w n (letter c b ∷ us)
    → Then r all (after_word r ts f w n (letter c b)) (n + 1) us
after_word_holds {r = r} {w = w} Alpha h i = grown_holds (length w) (ltb (length w) r.longest) refl (λ l. h_word h (more i tt l))
after_word_holds {r = r} {w = w} Digit h i = grown_holds (length w) (ltb (length w) r.longest) refl (λ l. h_word h (more i tt l))
after_word_holds {r = r} {w = w} Prime h i = grown_holds (length w) (ltb (length w) r.longest) refl (λ l. h_word h (more i tt l))
after_word_holds {w = w} Point h i = word_ended_holds (word_kind w) refl h i
after_word_holds Blank h i = start_holds Blank (one_token h (word i tt tt))
after_word_holds Star h i = start_holds Star (one_token h (word i tt tt))
after_word_holds Open h i = start_holds Open (one_token h (word i tt tt))
after_word_holds Close h i = start_holds Close (one_token h (word i tt tt))
after_word_holds Colon h i = start_holds Colon (one_token h (word i tt tt))
after_word_holds Equals h i = start_holds Equals (one_token h (word i tt tt))
after_word_holds Greater h i = start_holds Greater (one_token h (word i tt tt))
after_word_holds Dash h i = start_holds Dash (one_token h (word i tt tt))
after_word_holds Single h i = start_holds Single (one_token h (word i tt tt))
after_word_holds Other h i = start_holds Other (one_token h (word i tt tt))

after_second_holds : {r : Rules} {all : List Letter} {ts : List Token} {f p n a b : ℕ} {vs xs us : List Letter} {v w : List ℕ} (c : Class)
    → IsFront r all ts f vs → Word r f vs v p (letter Point a ∷ xs) → word_kind v ≡ Name
    → Word r (p + 1) xs w n (letter c b ∷ us)
    → Then r all (after_second r ts f w n (letter c b)) (n + 1) us
after_second_holds {r = r} {w = w} Alpha h i e j = grown_holds (length w) (ltb (length w) r.longest) refl (λ l. h_second h i e (more j tt l))
after_second_holds {r = r} {w = w} Digit h i e j = grown_holds (length w) (ltb (length w) r.longest) refl (λ l. h_second h i e (more j tt l))
after_second_holds {r = r} {w = w} Prime h i e j = grown_holds (length w) (ltb (length w) r.longest) refl (λ l. h_second h i e (more j tt l))
after_second_holds c h i e j = start_holds c (one_token h (joined i e j tt))

after_point_holds : {r : Rules} {all : List Letter} {ts : List Token} {f a b : ℕ} {us : List Letter} (c : Class)
    → IsFront r all ts f (letter Point a ∷ (letter c b ∷ us))
    → Then r all (after_point r ts f (f + 1) (letter c b)) (f + 1 + 1) us
after_point_holds Blank h = h_between (blank (one_token h (ending tt)))
after_point_holds Open h = h_point_open h
after_point_holds _ h = tt

after_word_point_holds : {r : Rules} {all : List Letter} {ts : List Token} {f p a b : ℕ} {vs us : List Letter} {w : List ℕ} (c : Class)
    → IsFront r all ts f vs → Word r f vs w p (letter Point a ∷ (letter c b ∷ us)) → word_kind w ≡ Name
    → Then r all (after_word_point r ts f p (p + 1) (letter c b)) (p + 1 + 1) us
after_word_point_holds {r = r} Alpha h i e = grown_holds 0 (ltb 0 r.longest) refl (λ l. h_second h i e (first l))
after_word_point_holds c h i e = after_point_holds c (one_token h (as_word e i tt tt))

after_number_holds : {r : Rules} {all : List Letter} {ts : List Token} {f n b : ℕ} {vs us : List Letter} (c : Class)
    → IsFront r all ts f vs → Digits f vs n (letter c b ∷ us)
    → Then r all (after_number r ts f n (letter c b)) (n + 1) us
after_number_holds Digit h i = h_number h (further i)
after_number_holds c h i = start_holds c (one_token h (number i tt))

after_open_holds : {r : Rules} {all : List Letter} {ts : List Token} {f a b : ℕ} {us : List Letter} (c : Class)
    → IsFront r all ts f (letter Open a ∷ (letter c b ∷ us))
    → Then r all (after_open r ts f (f + 1) (letter c b)) (f + 1 + 1) us
after_open_holds Star h = h_comment h begins
after_open_holds c h = start_holds c (one_token h (bracket tt))

after_colon_holds : {r : Rules} {all : List Letter} {ts : List Token} {f a b : ℕ} {us : List Letter} (c : Class)
    → IsFront r all ts f (letter Colon a ∷ (letter c b ∷ us))
    → Then r all (after_colon r ts f (f + 1) (letter c b)) (f + 1 + 1) us
after_colon_holds Equals h = h_between (one_token h becomes)
after_colon_holds c h = start_holds c (one_token h (colon tt))

after_dash_holds : {r : Rules} {all : List Letter} {ts : List Token} {f a b : ℕ} {us : List Letter} (c : Class)
    → IsFront r all ts f (letter Dash a ∷ (letter c b ∷ us))
    → Then r all (after_arrow_begun r ts f (f + 1) (letter c b)) (f + 1 + 1) us
after_dash_holds Greater h = h_between (one_token h arrow)
after_dash_holds _ h = tt

after_equals_holds : {r : Rules} {all : List Letter} {ts : List Token} {f a b : ℕ} {us : List Letter} (c : Class)
    → IsFront r all ts f (letter Equals a ∷ (letter c b ∷ us))
    → Then r all (after_arrow_begun r ts f (f + 1) (letter c b)) (f + 1 + 1) us
after_equals_holds Greater h = h_between (one_token h gives)
after_equals_holds _ h = tt

after_point_open_holds : {r : Rules} {all : List Letter} {ts : List Token} {f a b d : ℕ} {us : List Letter} (c : Class)
    → IsFront r all ts f (letter Point a ∷ (letter Open b ∷ (letter c d ∷ us)))
    → Then r all (after_point_open r ts f (f + 1 + 1) (letter c d)) (f + 1 + 1 + 1) us
after_point_open_holds Star h = h_comment (one_token h (ending tt)) begins
after_point_open_holds c h = start_holds c (one_token h (projection tt))

in_comment_holds : {r : Rules} {all : List Letter} {ts : List Token} {f n d b : ℕ} {vs us : List Letter} (c : Class)
    → IsFront r all ts f vs → Opened f vs d n (letter c b ∷ us)
    → Holds r all ts (in_comment d (letter c b)) (n + 1) us
in_comment_holds Star h i = h_star h i
in_comment_holds Open h i = h_inner h i
in_comment_holds c h i = h_comment h (goes_on i tt)

closed_holds : {r : Rules} {all : List Letter} {ts : List Token} {f n a b : ℕ} {vs us : List Letter} (d : ℕ)
    → IsFront r all ts f vs → Opened f vs d n (letter Star a ∷ (letter Close b ∷ us))
    → Holds r all ts (closed d) (n + 1 + 1) us
closed_holds zero h i = h_between (a_comment h i)
closed_holds (suc d) h i = h_comment h (closes i)

after_star_holds : {r : Rules} {all : List Letter} {ts : List Token} {f n d a b : ℕ} {vs us : List Letter} (c : Class)
    → IsFront r all ts f vs → Opened f vs d n (letter Star a ∷ (letter c b ∷ us))
    → Holds r all ts (after_comment_star d (letter c b)) (n + 1 + 1) us
after_star_holds {d = d} Close h i = closed_holds d h i
after_star_holds c h i = in_comment_holds c h (goes_on i tt)

after_inner_holds : {r : Rules} {all : List Letter} {ts : List Token} {f n d a b : ℕ} {vs us : List Letter} (c : Class)
    → IsFront r all ts f vs → Opened f vs d n (letter Open a ∷ (letter c b ∷ us))
    → Holds r all ts (after_comment_open d (letter c b)) (n + 1 + 1) us
after_inner_holds Star h i = h_comment h (opens i)
after_inner_holds c h i = in_comment_holds c h (goes_on i tt)

-- each step keeps it
pub step_holds : {r : Rules} {all : List Letter} {ts : List Token} {s : Doing} {n b : ℕ} {us : List Letter} (c : Class)
    → Holds r all ts s n (letter c b ∷ us) → Then r all (step r ts s n (letter c b)) (n + 1) us
step_holds c (h_between h) = start_holds c h
step_holds c (h_word h i) = after_word_holds c h i
step_holds c (h_point h i e) = after_word_point_holds c h i e
step_holds c (h_second h i e j) = after_second_holds c h i e j
step_holds c (h_number h i) = after_number_holds c h i
step_holds c (h_open h) = after_open_holds c h
step_holds c (h_colon h) = after_colon_holds c h
step_holds c (h_dash h) = after_dash_holds c h
step_holds c (h_equals h) = after_equals_holds c h
step_holds c (h_pointed h) = after_point_holds c h
step_holds c (h_point_open h) = after_point_open_holds c h
step_holds c (h_comment h i) = in_comment_holds c h i
step_holds c (h_star h i) = after_star_holds c h i
step_holds c (h_inner h i) = after_inner_holds c h i

-- at the end of the file
fin_between : {r : Rules} {all : List Letter} {ts us : List Token} {n : ℕ} → IsFront r all ts n [] → Some ts ≡ Some us → IsFront r all us n []
fin_between {r = r} {all = all} {ts = ts} {us = us} {n = n} h e =
    let P : List Token → Type 0 = λ x. IsFront r all x n [] in
    let k : ts ≡ us = cc in
    subst P k h

pub finish_holds : {r : Rules} {all : List Letter} {ts us : List Token} {s : Doing} {n : ℕ}
    → Holds r all ts s n [] → finish r ts s n ≡ Some us → (m : ℕ) × IsFront r all us m []
finish_holds (h_between h) e = (_, fin_between h e)
finish_holds (h_word h i) e = (_, fin_between (one_token h (word i tt tt)) e)
finish_holds (h_point h i k) e = (_, fin_between (one_token (one_token h (as_word k i tt tt)) (ending tt)) e)
finish_holds (h_second h i k j) e = (_, fin_between (one_token h (joined i k j tt)) e)
finish_holds (h_number h i) e = (_, fin_between (one_token h (number i tt)) e)
finish_holds (h_open h) e = (_, fin_between (one_token h (bracket tt)) e)
finish_holds (h_colon h) e = (_, fin_between (one_token h (colon tt)) e)
finish_holds (h_dash h) e = absurd (cc)
finish_holds (h_equals h) e = absurd (cc)
finish_holds (h_pointed h) e = (_, fin_between (one_token h (ending tt)) e)
finish_holds (h_point_open h) e = (_, fin_between (one_token h (projection tt)) e)
finish_holds (h_comment h i) e = absurd (cc)
finish_holds (h_star h i) e = absurd (cc)
finish_holds (h_inner h i) e = absurd (cc)
