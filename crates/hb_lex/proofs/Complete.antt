-- What the productions say, the reader goes through: it runs alike from a front and from behind it.
use Rattle.std.proofs.Common.{◌≡◌, ℕ, ◌+◌, ◌<◌, ltb, List, [], ◌∷◌, ◌++◌, length, Option, Some, refl, ap, ◌∙◌}
use Rattle.std.proofs.lemmas.Bool.{lt-ltb}
use Rattle.hb_lex.specs.declared.class.Class.{Class}
use Rattle.hb_lex.specs.declared.class.Class.TheVariants.{Alpha, Digit, Prime, Blank, Point, Star, Open, Close, Colon, Equals, Greater, Dash, Single, Other}
use Rattle.hb_lex.specs.declared.token.Token.{Token}
use Rattle.hb_lex.specs.declared.token.TokenKind.{TokenKind}
use Rattle.hb_lex.specs.declared.token.TokenKind.TheVariants.{Name, Keyword, Hole, Number, Symbol, End, Operator, Quoted}
use Rattle.hb_lex.specs.Letters.{Letter, letter}
use Rattle.hb_lex.specs.Words.{word_kind}
use Rattle.hb_lex.specs.Text.{Rules, token, IsPart, NoPart, NoDigit, NoStar, NoEquals, NoSecond, NotJoined, AfterEnd, IsInner, Word, first, more, Digits, one, further, Opened, begins, opens, closes, goes_on, Spells, word, joined, number, single, close, bracket, colon, becomes, arrow, gives, projection, ending, IsFront, nothing, blank, comment as a_comment, one_token}
use Rattle.hb_lex.specs.Machine.{between, in_word, word_point, in_second, in_number, opened, coloned, pointed, point_opened, comment, comment_star, comment_open, Reading, at, grown, word_ended, run}

-- the reader runs alike on us at place n and on vs at place m
pub record Alike (r : Rules) (a : Option Reading) (n : ℕ) (us : List Letter) (b : Option Reading) (m : ℕ) (vs : List Letter) : Type 0 where
  pub runs : run r a n us ≡ run r b m vs

andthen : {r : Rules} {a b c : Option Reading} {n m l : ℕ} {us vs ws : List Letter}
    → Alike r a n us b m vs → Alike r b m vs c l ws → Alike r a n us c l ws
andthen h i = record { runs = h.runs ∙ i.runs }

-- an identifier
has_room : {s : Reading} (k n : ℕ) → k < n → grown (ltb k n) s ≡ Some s
has_room {s = s} k n l = ap (λ b. grown b s) (lt-ltb k n l)

part_runs : {r : Rules} {ts : List Token} {f m b : ℕ} {w : List ℕ} {rest : List Letter} (c : Class) → IsPart c → length w < r.longest
    → Alike r (Some (at ts (in_word f w))) m (letter c b ∷ rest) (Some (at ts (in_word f (w ++ (b ∷ []))))) (m + 1) rest
part_runs {r = r} {m = m} {w = w} {rest = rest} Alpha p l = record { runs = ap (λ o. run r o (m + 1) rest) (has_room (length w) r.longest l) }
part_runs {r = r} {m = m} {w = w} {rest = rest} Digit p l = record { runs = ap (λ o. run r o (m + 1) rest) (has_room (length w) r.longest l) }
part_runs {r = r} {m = m} {w = w} {rest = rest} Prime p l = record { runs = ap (λ o. run r o (m + 1) rest) (has_room (length w) r.longest l) }
part_runs _ p l = absurd p

word_runs : {r : Rules} {n m : ℕ} {us rest : List Letter} {w : List ℕ} (ts : List Token) → Word r n us w m rest
    → Alike r (Some (at ts between)) n us (Some (at ts (in_word n w))) m rest
word_runs {r = r} {n = n} ts (first {us = us} l) = record { runs = ap (λ o. run r o (n + 1) us) (has_room 0 r.longest l) }
word_runs ts (more {c = c} i p l) = andthen (word_runs ts i) (part_runs c p l)

second_part_runs : {r : Rules} {ts : List Token} {f m b : ℕ} {w : List ℕ} {rest : List Letter} (c : Class) → IsPart c → length w < r.longest
    → Alike r (Some (at ts (in_second f w))) m (letter c b ∷ rest) (Some (at ts (in_second f (w ++ (b ∷ []))))) (m + 1) rest
second_part_runs {r = r} {m = m} {w = w} {rest = rest} Alpha p l = record { runs = ap (λ o. run r o (m + 1) rest) (has_room (length w) r.longest l) }
second_part_runs {r = r} {m = m} {w = w} {rest = rest} Digit p l = record { runs = ap (λ o. run r o (m + 1) rest) (has_room (length w) r.longest l) }
second_part_runs {r = r} {m = m} {w = w} {rest = rest} Prime p l = record { runs = ap (λ o. run r o (m + 1) rest) (has_room (length w) r.longest l) }
second_part_runs _ p l = absurd p

second_runs : {r : Rules} {f p n m : ℕ} {us rest : List Letter} {w : List ℕ} (ts : List Token) → Word r n us w m rest
    → Alike r (Some (at ts (word_point f p))) n us (Some (at ts (in_second f w))) m rest
second_runs {r = r} {n = n} ts (first {us = us} l) = record { runs = ap (λ o. run r o (n + 1) us) (has_room 0 r.longest l) }
second_runs ts (more {c = c} i p l) = andthen (second_runs ts i) (second_part_runs c p l)

digits_run : {r : Rules} {n m : ℕ} {us rest : List Letter} (ts : List Token) → Digits n us m rest
    → Alike r (Some (at ts between)) n us (Some (at ts (in_number n))) m rest
digits_run ts one = record { runs = refl }
digits_run ts (further i) = andthen (digits_run ts i) (record { runs = refl })

-- what is under way ends where something else follows
name_ends : {r : Rules} {f m : ℕ} (ts : List Token) (us : List Letter) → NoSecond Name us
    → Alike r (Some (at ts (word_point f m))) (m + 1) us (Some (at (ts ++ (token r Name f m ∷ [])) (pointed m))) (m + 1) us
name_ends ts [] p = record { runs = refl }
name_ends ts (letter Alpha b ∷ us) p = absurd p
name_ends ts (letter Digit b ∷ us) p = record { runs = refl }
name_ends ts (letter Prime b ∷ us) p = record { runs = refl }
name_ends ts (letter Blank b ∷ us) p = record { runs = refl }
name_ends ts (letter Point b ∷ us) p = record { runs = refl }
name_ends ts (letter Star b ∷ us) p = record { runs = refl }
name_ends ts (letter Open b ∷ us) p = record { runs = refl }
name_ends ts (letter Close b ∷ us) p = record { runs = refl }
name_ends ts (letter Colon b ∷ us) p = record { runs = refl }
name_ends ts (letter Equals b ∷ us) p = record { runs = refl }
name_ends ts (letter Greater b ∷ us) p = record { runs = refl }
name_ends ts (letter Dash b ∷ us) p = record { runs = refl }
name_ends ts (letter Single b ∷ us) p = record { runs = refl }
name_ends ts (letter Other b ∷ us) p = record { runs = refl }

word_ends_at_point : {r : Rules} (f m : ℕ) (ts : List Token) (us : List Letter) (k : TokenKind) → NoSecond k us
    → Alike r (word_ended r ts f m k) (m + 1) us (Some (at (ts ++ (token r k f m ∷ [])) (pointed m))) (m + 1) us
word_ends_at_point f m ts us Name p = name_ends ts us p
word_ends_at_point f m ts us Keyword p = record { runs = refl }
word_ends_at_point f m ts us Hole p = record { runs = refl }
word_ends_at_point f m ts us Number p = record { runs = refl }
word_ends_at_point f m ts us Symbol p = record { runs = refl }
word_ends_at_point f m ts us End p = record { runs = refl }
word_ends_at_point f m ts us Operator p = record { runs = refl }
word_ends_at_point f m ts us Quoted p = record { runs = refl }

word_ends : {r : Rules} {f m : ℕ} (ts : List Token) (w : List ℕ) (rest : List Letter) → NoPart rest → NotJoined rest (word_kind w)
    → Alike r (Some (at ts (in_word f w))) m rest (Some (at (ts ++ (token r (word_kind w) f m ∷ [])) between)) m rest
word_ends ts w [] p j = record { runs = refl }
word_ends ts w (letter Alpha b ∷ us) p j = absurd p
word_ends ts w (letter Digit b ∷ us) p j = absurd p
word_ends ts w (letter Prime b ∷ us) p j = absurd p
word_ends {f = f} {m = m} ts w (letter Point b ∷ us) p j = record { runs = (word_ends_at_point f m ts us (word_kind w) j).runs }
word_ends ts w (letter Blank b ∷ us) p j = record { runs = refl }
word_ends ts w (letter Star b ∷ us) p j = record { runs = refl }
word_ends ts w (letter Open b ∷ us) p j = record { runs = refl }
word_ends ts w (letter Close b ∷ us) p j = record { runs = refl }
word_ends ts w (letter Colon b ∷ us) p j = record { runs = refl }
word_ends ts w (letter Equals b ∷ us) p j = record { runs = refl }
word_ends ts w (letter Greater b ∷ us) p j = record { runs = refl }
word_ends ts w (letter Dash b ∷ us) p j = record { runs = refl }
word_ends ts w (letter Single b ∷ us) p j = record { runs = refl }
word_ends ts w (letter Other b ∷ us) p j = record { runs = refl }

second_ends : {r : Rules} {f m : ℕ} (ts : List Token) (w : List ℕ) (rest : List Letter) → NoPart rest
    → Alike r (Some (at ts (in_second f w))) m rest (Some (at (ts ++ (token r Name f m ∷ [])) between)) m rest
second_ends ts w [] p = record { runs = refl }
second_ends ts w (letter Alpha b ∷ us) p = absurd p
second_ends ts w (letter Digit b ∷ us) p = absurd p
second_ends ts w (letter Prime b ∷ us) p = absurd p
second_ends ts w (letter c b ∷ us) p = record { runs = refl }

number_ends : {r : Rules} {f m : ℕ} (ts : List Token) (rest : List Letter) → NoDigit rest
    → Alike r (Some (at ts (in_number f))) m rest (Some (at (ts ++ (token r Number f m ∷ [])) between)) m rest
number_ends ts [] p = record { runs = refl }
number_ends ts (letter Digit b ∷ us) p = absurd p
number_ends ts (letter c b ∷ us) p = record { runs = refl }

bracket_ends : {r : Rules} {f m : ℕ} (ts : List Token) (rest : List Letter) → NoStar rest
    → Alike r (Some (at ts (opened f))) m rest (Some (at (ts ++ (token r Symbol f m ∷ [])) between)) m rest
bracket_ends ts [] p = record { runs = refl }
bracket_ends ts (letter Star b ∷ us) p = absurd p
bracket_ends ts (letter c b ∷ us) p = record { runs = refl }

colon_ends : {r : Rules} {f m : ℕ} (ts : List Token) (rest : List Letter) → NoEquals rest
    → Alike r (Some (at ts (coloned f))) m rest (Some (at (ts ++ (token r Symbol f m ∷ [])) between)) m rest
colon_ends ts [] p = record { runs = refl }
colon_ends ts (letter Equals b ∷ us) p = absurd p
colon_ends ts (letter c b ∷ us) p = record { runs = refl }

projection_ends : {r : Rules} {f m : ℕ} (ts : List Token) (rest : List Letter) → NoStar rest
    → Alike r (Some (at ts (point_opened f))) m rest (Some (at (ts ++ (token r Symbol f m ∷ [])) between)) m rest
projection_ends ts [] p = record { runs = refl }
projection_ends ts (letter Star b ∷ us) p = absurd p
projection_ends ts (letter c b ∷ us) p = record { runs = refl }

ending_ends : {r : Rules} {f : ℕ} (ts : List Token) (rest : List Letter) → AfterEnd rest
    → Alike r (Some (at ts (pointed f))) (f + 1) rest (Some (at (ts ++ (token r End f (f + 1) ∷ [])) between)) (f + 1) rest
ending_ends ts [] p = record { runs = refl }
ending_ends ts (letter Blank b ∷ us) p = record { runs = refl }
ending_ends ts (letter Open a ∷ (letter Star b ∷ us)) p = record { runs = refl }
ending_ends ts _ p = absurd p

named : {r : Rules} {b : ℕ} {w : List ℕ} (ts : List Token) (n m : ℕ) (vs : List Letter) → word_kind w ≡ Name
    → Alike r (Some (at ts (in_word n w))) m (letter Point b ∷ vs) (Some (at ts (word_point n m))) (m + 1) vs
named {r = r} ts n m vs e = record { runs = ap (λ k. run r (word_ended r ts n m k) (m + 1) vs) e }

spells_runs : {r : Rules} {n m : ℕ} {us rest : List Letter} {k : TokenKind} (ts : List Token) → Spells r n us k m rest
    → Alike r (Some (at ts between)) n us (Some (at (ts ++ (token r k n m ∷ [])) between)) m rest
spells_runs {rest = rest} ts (word {w = w} i p j) = andthen (word_runs ts i) (word_ends ts w rest p j)
spells_runs {r = r} {n = n} {rest = rest} ts (joined {m = m} {vs = vs} {v = v} {w = w} i e j p) =
    andthen (word_runs ts i) (andthen (named ts n m vs e) (andthen (second_runs ts j) (second_ends ts w rest p)))
spells_runs {rest = rest} ts (number i p) = andthen (digits_run ts i) (number_ends ts rest p)
spells_runs ts single = record { runs = refl }
spells_runs ts close = record { runs = refl }
spells_runs {rest = rest} ts (bracket p) = record { runs = (bracket_ends ts rest p).runs }
spells_runs {rest = rest} ts (colon p) = record { runs = (colon_ends ts rest p).runs }
spells_runs ts becomes = record { runs = refl }
spells_runs ts arrow = record { runs = refl }
spells_runs ts gives = record { runs = refl }
spells_runs {rest = rest} ts (projection p) = record { runs = (projection_ends ts rest p).runs }
spells_runs {rest = rest} ts (ending p) = record { runs = (ending_ends ts rest p).runs }

-- a comment
star_goes_on : {r : Rules} {ts : List Token} {n d : ℕ} (rest : List Letter) → IsInner Star rest
    → Alike r (Some (at ts (comment_star d))) n rest (Some (at ts (comment d))) n rest
star_goes_on [] p = record { runs = refl }
star_goes_on (letter Close b ∷ us) p = absurd p
star_goes_on (letter c b ∷ us) p = record { runs = refl }

open_goes_on : {r : Rules} {ts : List Token} {n d : ℕ} (rest : List Letter) → IsInner Open rest
    → Alike r (Some (at ts (comment_open d))) n rest (Some (at ts (comment d))) n rest
open_goes_on [] p = record { runs = refl }
open_goes_on (letter Star b ∷ us) p = absurd p
open_goes_on (letter c b ∷ us) p = record { runs = refl }

inner_runs : {r : Rules} {ts : List Token} {n d b : ℕ} (c : Class) (rest : List Letter) → IsInner c rest
    → Alike r (Some (at ts (comment d))) n (letter c b ∷ rest) (Some (at ts (comment d))) (n + 1) rest
inner_runs Star rest p = record { runs = (star_goes_on rest p).runs }
inner_runs Open rest p = record { runs = (open_goes_on rest p).runs }
inner_runs c rest p = record { runs = refl }

opened_runs : {r : Rules} {n d m : ℕ} {us rest : List Letter} (ts : List Token) → Opened n us d m rest
    → Alike r (Some (at ts between)) n us (Some (at ts (comment d))) m rest
opened_runs ts begins = record { runs = refl }
opened_runs ts (opens i) = andthen (opened_runs ts i) (record { runs = refl })
opened_runs ts (closes i) = andthen (opened_runs ts i) (record { runs = refl })
opened_runs ts (goes_on {rest = rest} {c = c} i p) = andthen (opened_runs ts i) (inner_runs c rest p)

pub front_runs : {r : Rules} {all : List Letter} {ts : List Token} {n : ℕ} {us : List Letter} → IsFront r all ts n us
    → Alike r (Some (at [] between)) 0 all (Some (at ts between)) n us
front_runs nothing = record { runs = refl }
front_runs (blank h) = andthen (front_runs h) (record { runs = refl })
front_runs (a_comment {ts = ts} h i) = andthen (front_runs h) (andthen (opened_runs ts i) (record { runs = refl }))
front_runs (one_token {ts = ts} h i) = andthen (front_runs h) (spells_runs ts i)

pub text_runs : {r : Rules} {all : List Letter} {ts : List Token} {n : ℕ} → IsFront r all ts n []
    → run r (Some (at [] between)) 0 all ≡ Some ts
text_runs h = (front_runs h).runs
