-- The text of a token is ASCII.
use Rattle.std.proofs.Common.{◌≡◌, ℕ, ◌+◌, ◌-◌, ◌<◌, ◌≤◌, List, [], ◌∷◌, ◌++◌, length, take, drop, get_or, refl, ap, ◌∙◌, sym, subst, arith, All, false}
use Rattle.std.specs.Str.{IsAscii}
use Rattle.std.proofs.lemmas.List.{append_assoc, take-map, drop-map, length-append, length-map, get_or-map}
use Rattle.std.proofs.lemmas.List.Elements.{All-nil, All-push, All-append, All-get_or}
use Rattle.std.proofs.lemmas.Str.Ascii.{IsAscii-from_all}
use Rattle.std.proofs.Math.Seq.{drop-append_seam, take-append_seam}
use Rattle.std.proofs.Common.{inl, inr}
use Rattle.std.proofs.lemmas.Bool.{cases_lt}
use Rattle.std.proofs.lemmas.Bool.Decides.{nat_tests}
use Rattle.hb_lex.specs.declared.class.Class.{Class}
use Rattle.hb_lex.specs.declared.class.Class.TheVariants.{Alpha, Digit, Prime, Blank, Point, Star, Open, Close, Colon, Equals, Greater, Dash, Single, Other}
use Rattle.hb_lex.specs.declared.token.Token.{Token}
use Rattle.hb_lex.specs.declared.token.TokenKind.{TokenKind}
use Rattle.hb_lex.specs.Letters.{Letter, letter, letter_of, letters, class_of, is_alpha, is_digit, is_blank, is_single}
use Rattle.hb_lex.specs.Text.{Rules, Word, first, more, IsPart, Digits, one, further, Opened, begins, opens, closes, goes_on, Spells, word, joined, number, single, close, bracket, colon, becomes, arrow, gives, projection, ending, IsFront, nothing, blank, comment, one_token, HasTokens, token}
use Rattle.hb_parse.specs.Marks.{piece}

-- a letter that stands outside comments too
abbrev IsPlain : Letter → Type 0
IsPlain (letter Other b) = ⊥
IsPlain _ = Unit {0}

-- the letters us, at place n, go on with `front` before the rest, at place m
record Passed (n : ℕ) (us : List Letter) (m : ℕ) (rest : List Letter) : Type 0 where
  pub front : List Letter
  pub is : us ≡ front ++ rest
  pub goes : m ≡ n + length front

-- and these are plain
record Plain (n : ℕ) (us : List Letter) (m : ℕ) (rest : List Letter) : Type 0 where
  pub passed : Passed n us m rest
  pub plain : All IsPlain passed.front

abbrev here : (n : ℕ) (us : List Letter) → Passed n us n us
here n us = record { front = []; is = refl; goes = omega arith }

abbrev one_more : {n m : ℕ} {us rest : List Letter} (l : Letter) → Passed n us m (l ∷ rest) → Passed n us (m + 1) rest
one_more {n = n} {m = m} {us = us} {rest = rest} l p = record {
  front = p.front ++ (l ∷ []);
  is = p.is ∙ sym (append_assoc p.front (l ∷ []) rest);
  goes = omega (arith, p.goes, length-append p.front (l ∷ []));
}

plain_here : (n : ℕ) (us : List Letter) → Plain n us n us
plain_here n us = record { passed = here n us; plain = All-nil IsPlain }

plain_more : {n m : ℕ} {us rest : List Letter} (l : Letter) → Plain n us m (l ∷ rest) → IsPlain l → Plain n us (m + 1) rest
plain_more l p i = record {
  passed = one_more l p.passed;
  plain = All-push IsPlain p.passed.front l p.plain i;
}

plain_then : {n m l : ℕ} {us vs rest : List Letter} → Plain n us m vs → Plain m vs l rest → Plain n us l rest
plain_then {rest = rest} p q = record {
  passed = record {
    front = p.passed.front ++ q.passed.front;
    is = p.passed.is ∙ (ap (λ x. p.passed.front ++ x) q.passed.is ∙ sym (append_assoc p.passed.front q.passed.front rest));
    goes = omega (arith, p.passed.goes, q.passed.goes, length-append p.passed.front q.passed.front);
  };
  plain = All-append IsPlain p.passed.front q.passed.front p.plain q.plain;
}

part_plain : (c : Class) (b : ℕ) → IsPart c → IsPlain (letter c b)
part_plain Alpha b p = tt
part_plain Digit b p = tt
part_plain Prime b p = tt
part_plain Other b p = p
part_plain _ b p = tt

word_plain : {r : Rules} {n m : ℕ} {us rest : List Letter} {w : List ℕ} → Word r n us w m rest → Plain n us m rest
word_plain {n = n} {us = us} (first {b = b} l) = plain_more (letter Alpha b) (plain_here n us) tt
word_plain (more {b = b} {c = c} h p l) = plain_more (letter c b) (word_plain h) (part_plain c b p)

digits_plain : {n m : ℕ} {us rest : List Letter} → Digits n us m rest → Plain n us m rest
digits_plain {n = n} {us = us} (one {b = b}) = plain_more (letter Digit b) (plain_here n us) tt
digits_plain (further {b = b} h) = plain_more (letter Digit b) (digits_plain h) tt

spells_plain : {r : Rules} {n m : ℕ} {us rest : List Letter} {k : TokenKind} → Spells r n us k m rest → Plain n us m rest
spells_plain (word h p j) = word_plain h
spells_plain (joined {b = b} h e i p) = plain_then (plain_more (letter Point b) (word_plain h) tt) (word_plain i)
spells_plain (number h p) = digits_plain h
spells_plain {n = n} {us = us} (single {b = b}) = plain_more (letter Single b) (plain_here n us) tt
spells_plain {n = n} {us = us} (close {b = b}) = plain_more (letter Close b) (plain_here n us) tt
spells_plain {n = n} {us = us} (bracket {b = b} p) = plain_more (letter Open b) (plain_here n us) tt
spells_plain {n = n} {us = us} (colon {b = b} p) = plain_more (letter Colon b) (plain_here n us) tt
spells_plain {n = n} {us = us} (becomes {a = a} {b = b}) = plain_more (letter Equals b) (plain_more (letter Colon a) (plain_here n us) tt) tt
spells_plain {n = n} {us = us} (arrow {a = a} {b = b}) = plain_more (letter Greater b) (plain_more (letter Dash a) (plain_here n us) tt) tt
spells_plain {n = n} {us = us} (gives {a = a} {b = b}) = plain_more (letter Greater b) (plain_more (letter Equals a) (plain_here n us) tt) tt
spells_plain {n = n} {us = us} (projection {a = a} {b = b} p) = plain_more (letter Open b) (plain_more (letter Point a) (plain_here n us) tt) tt
spells_plain {n = n} {us = us} (ending {b = b} p) = plain_more (letter Point b) (plain_here n us) tt

-- comments
opened_passed : {n d m : ℕ} {us rest : List Letter} → Opened n us d m rest → Passed n us m rest
opened_passed {n = n} {us = us} (begins {a = a} {b = b}) = one_more (letter Star b) (one_more (letter Open a) (here n us))
opened_passed (opens {a = a} {b = b} h) = one_more (letter Star b) (one_more (letter Open a) (opened_passed h))
opened_passed (closes {a = a} {b = b} h) = one_more (letter Close b) (one_more (letter Star a) (opened_passed h))
opened_passed (goes_on {b = b} {c = c} h i) = one_more (letter c b) (opened_passed h)

passed_then : {n m l : ℕ} {us vs rest : List Letter} → Passed n us m vs → Passed m vs l rest → Passed n us l rest
passed_then {rest = rest} p q = record {
  front = p.front ++ q.front;
  is = p.is ∙ (ap (λ x. p.front ++ x) q.is ∙ sym (append_assoc p.front q.front rest));
  goes = omega (arith, p.goes, q.goes, length-append p.front q.front);
}

front_passed : {r : Rules} {all : List Letter} {ts : List Token} {n : ℕ} {us : List Letter} → IsFront r all ts n us → Passed 0 all n us
front_passed {all = all} nothing = here 0 all
front_passed (blank {b = b} h) = one_more (letter Blank b) (front_passed h)
front_passed (comment {a = a} {b = b} h i) = one_more (letter Close b) (one_more (letter Star a) (passed_then (front_passed h) (opened_passed i)))
front_passed (one_token h i) = passed_then (front_passed h) (spells_plain i).passed

-- plain letters are ASCII
above : (b : ℕ) → 128 ≤ b → class_of b ≡ Other
above b h =
    let a : is_alpha b ≡ false = grind (arith, nat_tests) in
    let d : is_digit b ≡ false = grind (arith, nat_tests) in
    let k : is_blank b ≡ false = grind (arith, nat_tests) in
    let s : is_single b ≡ false = grind (arith, nat_tests) in
    grind (arith, nat_tests)

plain_ascii : (b : ℕ) → IsPlain (letter_of b) → b < 128
plain_ascii b p =
    elim (cases_lt b 128) [
      | inl l ↦ l
      | inr h ↦ let q : IsPlain (letter Other b) = subst (λ (c : Class). IsPlain (letter c b)) (above b h) p in absurd q
    ]

all_ascii : (bs : List ℕ) → All IsPlain (letters bs) → All (λ b. b < 128) bs
all_ascii bs h k d l =
    let i : k < length (letters bs) = omega (arith, l, length-map bs letter_of) in
    plain_ascii (get_or bs k d) (subst IsPlain (get_or-map letter_of bs k d (letter_of d) l) (h k (letter_of d) i))

-- the bytes between two places
between : {n m : ℕ} {all us rest : List Letter} (bytes : List ℕ) → letters bytes ≡ all → Passed 0 all n us → (p : Plain n us m rest)
    → letters (take (m - n) (drop n bytes)) ≡ p.passed.front
between {n = n} {m = m} {us = us} {rest = rest} bytes e q p =
    let f = p.passed.front in
    let len : m - n ≡ length f = omega (arith, p.passed.goes) in
    let len2 : n ≡ length q.front = omega (arith, q.goes) in
    let dropped : drop n (letters bytes) ≡ f ++ rest =
    ap (λ us. drop n us) (e ∙ q.is) ∙ (ap (λ i. drop i (q.front ++ us)) len2 ∙ (drop-append_seam q.front us ∙ p.passed.is)) in
    sym (take-map letter_of (m - n) (drop n bytes)) ∙ (ap (λ us. take (m - n) us) (sym (drop-map letter_of n bytes) ∙ dropped)
    ∙ (ap (λ i. take i (f ++ rest)) len ∙ take-append_seam f rest))

tokens_ascii : {r : Rules} {all : List Letter} {ts : List Token} {n : ℕ} {us : List Letter} (bytes : List ℕ) → letters bytes ≡ all
    → IsFront r all ts n us → All (λ t. IsAscii (piece bytes t.span)) ts
tokens_ascii bytes e nothing = All-nil (λ t. IsAscii (piece bytes t.span))
tokens_ascii bytes e (blank h) = tokens_ascii bytes e h
tokens_ascii bytes e (comment h i) = tokens_ascii bytes e h
tokens_ascii {r = r} bytes e (one_token {n = n} {m = m} {ts = ts} {k = k} h i) =
    let p = spells_plain i in
    let f = between bytes e (front_passed h) p in
    All-push (λ t. IsAscii (piece bytes t.span)) ts (token r k n m) (tokens_ascii bytes e h)
    (IsAscii-from_all (take (m - n) (drop n bytes)) (all_ascii (take (m - n) (drop n bytes)) (subst (All IsPlain) (sym f) p.plain)))

-- the text of a token of the bytes
pub token_ascii : (r : Rules) (bytes : List ℕ) (ts : List Token) (i : ℕ) (d : Token) → HasTokens r bytes ts → i < length ts
    → IsAscii (piece bytes (get_or ts i d).span)
token_ascii r bytes ts i d (n, h) l =
    All-get_or (λ t. IsAscii (piece bytes t.span)) ts i d l (tokens_ascii bytes refl h)
