-- A source as a list of bytes, each with its class.
use Rattle.std.specs.Prelude.{ℕ, Bool, List, map, ◌&&◌, ◌||◌, nat_le, ◌==◌, if◌then◌else◌}
use Rattle.hb_lex.specs.declared.class.Class.{Class}
use Rattle.hb_lex.specs.declared.class.Class.TheVariants.{Alpha, Digit, Prime, Blank, Point, Star, Open, Close, Colon, Equals, Greater, Dash, Single, Other}

-- what an identifier begins with: a letter or `_`
abbrev pub is_alpha : ℕ → Bool
is_alpha b = (nat_le 65 b && nat_le b 90) || (nat_le 97 b && nat_le b 122) || (b == 95)

abbrev pub is_digit : ℕ → Bool
is_digit b = nat_le 48 b && nat_le b 57

-- tab, line feed, carriage return and space
abbrev pub is_blank : ℕ → Bool
is_blank b = (b == 9) || (b == 10) || (b == 13) || (b == 32)

-- `{ } , ; & @`
abbrev pub is_single : ℕ → Bool
is_single b = (b == 123) || (b == 125) || (b == 44) || (b == 59) || (b == 38) || (b == 64)

-- the class of a byte
abbrev pub class_of : ℕ → Class
class_of b =
    if is_alpha b then Alpha else (if is_digit b then Digit else (if b == 39 then Prime else (
    if is_blank b then Blank else (if b == 46 then Point else (if b == 42 then Star else (
    if b == 40 then Open else (if b == 41 then Close else (if b == 58 then Colon else (
    if b == 61 then Equals else (if b == 62 then Greater else (if b == 45 then Dash else (
    if is_single b then Single else Other))))))))))))

-- a byte with its class
pub data Letter : Type 0 where
  letter : Class → ℕ → Letter

abbrev pub letter_of : ℕ → Letter
letter_of b = letter (class_of b) b

-- the bytes of a text with their classes
abbrev pub letters : List ℕ → List Letter
letters = map letter_of
