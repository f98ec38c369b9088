-- Tokens and places, from the reader's way through the bytes.
use Rattle.std.proofs.Common.{◌≡◌, ℕ, ◌+◌, ◌<◌, List, [], ◌∷◌, ◌++◌, length, take, get_or, Option, Some, None, refl, ap, ◌∙◌, sym, subst, arith}
use Rattle.std.proofs.lemmas.List.{take_more, append_assoc, append-nil, map-append, take_all}
use Rattle.hb_lex.specs.declared.class.Class.{Class}
use Rattle.hb_lex.specs.declared.token.Token.{Token}
use Rattle.hb_lex.specs.Letters.{Letter, letter, letter_of, letters, class_of}
use Rattle.hb_lex.specs.Text.{Rules, IsFront, nothing, HasTokens}
use Rattle.hb_lex.specs.Places.{Begins, StopsAt, at_byte, at_end, OneReading}
use Rattle.hb_lex.specs.declared.class.Class.TheVariants.{Blank}
use Rattle.hb_lex.specs.declared.state.State.{State}
use Rattle.hb_lex.specs.declared.state.State.TheVariants.{Between}
use Rattle.hb_lex.specs.Machine.{Doing, between, in_word, word_point, in_second, in_number, opened, coloned, arrow_begun, pointed, point_opened, comment, comment_star, comment_open, Reading, at, step, ended, finish, run}
use Rattle.hb_lex.specs.Views.{reading}
use Rattle.hb_lex.proofs.Sound.{h_between, Then, step_holds, finish_holds}
use Rattle.hb_lex.proofs.Complete.{text_runs}
use Rattle.hb_lex.proofs.Live.{ends}

pub one_reading : OneReading
one_reading r bytes ts us (n, h) (m, i) = let e = text_runs h in let f = text_runs i in cc

sound : {r : Rules} {all : List Letter} {ts : List Token} (o : Option Reading) (n : ℕ) (us : List Letter)
    → Then r all o n us → run r o n us ≡ Some ts → (m : ℕ) × IsFront r all ts m []
sound None n us h e = absurd (cc)
sound (Some (at ts s)) n [] h e = finish_holds h e
sound {r = r} (Some (at ts s)) n (letter c b ∷ us) h e = sound (step r ts s n (letter c b)) (n + 1) us (step_holds c h) e

-- the reader reads the bytes before place i to these tokens, with this under way
pub record Came (r : Rules) (bytes : List ℕ) (i : ℕ) (ts : List Token) (s : Doing) : Type 0 where
  pub runs : (more : List Letter)
      → run r (Some (at [] between)) 0 (letters (take i bytes) ++ more) ≡ run r (Some (at ts s)) i more

pub came-none : (r : Rules) (bytes : List ℕ) → Came r bytes 0 [] between
came-none r bytes = record { runs = λ more. refl }

letters_more : (bytes : List ℕ) (i : ℕ) (more : List Letter) → i < length bytes
    → letters (take (i + 1) bytes) ++ more ≡ letters (take i bytes) ++ (letter_of (get_or bytes i 0) ∷ more)
letters_more bytes i more l =
    rw (take_more bytes i 0 l) (rw (map-append letter_of (take i bytes) (get_or bytes i 0 ∷ []))
    (append_assoc (letters (take i bytes)) (letter_of (get_or bytes i 0) ∷ []) more))

came-next : {r : Rules} {bytes : List ℕ} {i : ℕ} {ts : List Token} {s : Doing} → i < length bytes → Came r bytes i ts s
    → (more : List Letter)
    → run r (Some (at [] between)) 0 (letters (take (i + 1) bytes) ++ more) ≡ run r (step r ts s i (letter_of (get_or bytes i 0))) (i + 1) more
came-next {r = r} {bytes = bytes} {i = i} l c more =
    ap (λ us. run r (Some (at [] between)) 0 us) (letters_more bytes i more l)
    ∙ c.runs (letter_of (get_or bytes i 0) ∷ more)

pub came-more : {r : Rules} {bytes : List ℕ} {i : ℕ} {ts us : List Token} {s t : Doing} → i < length bytes → Came r bytes i ts s
    → step r ts s i (letter_of (get_or bytes i 0)) ≡ Some (at us t) → Came r bytes (i + 1) us t
came-more {r = r} {i = i} l c e = record {
  runs = λ more. came-next l c more ∙ ap (λ o. run r o (i + 1) more) e;
}

came-begins : {r : Rules} {bytes : List ℕ} {i : ℕ} {ts : List Token} {s : Doing} → Came r bytes i ts s → Begins r (take i bytes)
came-begins {r = r} {bytes = bytes} {i = i} {ts = ts} {s = s} c =
    let e = ends {r = r} s ts i in (
      e.bytes,
      e.tokens,
      sound (Some (at [] between)) 0 (letters (take i bytes ++ e.bytes)) (h_between nothing)
          (rw (map-append letter_of (take i bytes) e.bytes) (c.runs (letters e.bytes) ∙ e.runs)),
    )

pub came-stuck : {r : Rules} {bytes : List ℕ} {i : ℕ} {ts : List Token} {s : Doing} → i < length bytes → Came r bytes i ts s
    → step r ts s i (letter_of (get_or bytes i 0)) ≡ None → StopsAt r bytes i
came-stuck {r = r} {bytes = bytes} {i = i} l c e =
    at_byte l (came-begins c) (λ (more, ts, (n, h)).
    let runs = text_runs h in
    let split : letters (take (i + 1) bytes ++ more) ≡ letters (take (i + 1) bytes) ++ letters more = map-append letter_of (take (i + 1) bytes) more in
    let none = came-next l c (letters more) ∙ ap (λ o. run r o (i + 1) (letters more)) e in
    let same = ap (λ us. run r (Some (at [] between)) 0 us) split in
    cc)

came-whole : {r : Rules} {bytes : List ℕ} {ts : List Token} {s : Doing} → Came r bytes (length bytes) ts s
    → run r (Some (at [] between)) 0 (letters bytes) ≡ finish r ts s (length bytes)
came-whole {r = r} {bytes = bytes} c =
    let e : letters (take (length bytes) bytes) ++ [] ≡ letters bytes =
    rw (take_all (length bytes) bytes (omega arith)) (append-nil (letters bytes)) in
    ap (λ us. run r (Some (at [] between)) 0 us) (sym e) ∙ c.runs []

pub came-reads : {r : Rules} {bytes : List ℕ} {ts us : List Token} {s : Doing} → Came r bytes (length bytes) ts s
    → finish r ts s (length bytes) ≡ Some us → HasTokens r bytes us
came-reads {bytes = bytes} c e = sound (Some (at [] between)) 0 (letters bytes) (h_between nothing) (came-whole c ∙ e)

pub came-stops : {r : Rules} {bytes : List ℕ} {ts : List Token} {s : Doing} → Came r bytes (length bytes) ts s
    → finish r ts s (length bytes) ≡ None → StopsAt r bytes (length bytes)
came-stops {r = r} {bytes = bytes} c e =
    at_end refl (subst (λ (bs : List ℕ). Begins r bs) (take_all (length bytes) bytes (omega arith)) (came-begins c)) (λ ts (n, h).
    let runs = text_runs h in let none = came-whole c ∙ e in cc)

-- the end of the file
blank_alike : (r : Rules) (ts : List Token) (n : ℕ) (a b : ℕ) (s : Doing) → step r ts s n (letter Blank a) ≡ step r ts s n (letter Blank b)
blank_alike r ts n a b between = refl
blank_alike r ts n a b (in_word f w) = refl
blank_alike r ts n a b (word_point f p) = refl
blank_alike r ts n a b (in_second f w) = refl
blank_alike r ts n a b (in_number f) = refl
blank_alike r ts n a b (opened f) = refl
blank_alike r ts n a b (coloned f) = refl
blank_alike r ts n a b (arrow_begun f) = refl
blank_alike r ts n a b (pointed f) = refl
blank_alike r ts n a b (point_opened f) = refl
blank_alike r ts n a b (comment d) = refl
blank_alike r ts n a b (comment_star d) = refl
blank_alike r ts n a b (comment_open d) = refl

pub ends_reading : {r : Rules} {bytes : List ℕ} {ts : List Token} {s : Doing} (us : List Token) (b n : ℕ) (o : Option State) → Came r bytes (length bytes) ts s
    → reading bytes n us o ≡ step r ts s (length bytes) (letter Blank b) → o ≡ Some Between → HasTokens r bytes us
ends_reading {r = r} {bytes = bytes} {ts = ts} {s = s} us b n o c e i =
    came-reads c (ap ended (blank_alike r ts (length bytes) 10 b s ∙ sym e) ∙ ap (λ x. ended (reading bytes n us x)) i)

not_ended : (bytes : List ℕ) (n : ℕ) (us : List Token) (o : Option State) → (o ≡ Some Between → ⊥) → ended (reading bytes n us o) ≡ None
not_ended bytes n us None h = refl
not_ended bytes n us (Some Between) h = absurd (h refl)
not_ended bytes n us (Some _) h = refl

pub ends_stuck : {r : Rules} {bytes : List ℕ} {ts : List Token} {s : Doing} (us : List Token) (b n : ℕ) (o : Option State) → Came r bytes (length bytes) ts s
    → reading bytes n us o ≡ step r ts s (length bytes) (letter Blank b) → (o ≡ Some Between → ⊥) → StopsAt r bytes (length bytes)
ends_stuck {r = r} {bytes = bytes} {ts = ts} {s = s} us b n o c e h =
    came-stops c (ap ended (blank_alike r ts (length bytes) 10 b s ∙ sym e) ∙ not_ended bytes n us o h)

pub step_stuck : {r : Rules} {bytes : List ℕ} {i : ℕ} {ts : List Token} {s : Doing} (us : List Token) (k : Class) (o : Option State)
    → i < length bytes → Came r bytes i ts s → k ≡ class_of (get_or bytes i 0)
    → reading bytes (i + 1) us o ≡ step r ts s i (letter k (get_or bytes i 0)) → o ≡ None → StopsAt r bytes i
step_stuck {r = r} {bytes = bytes} {i = i} {ts = ts} {s = s} us k o l c e f n =
    came-stuck l c (ap (λ x. step r ts s i (letter x (get_or bytes i 0))) (sym e) ∙ (sym f ∙ ap (λ x. reading bytes (i + 1) us x) n))
