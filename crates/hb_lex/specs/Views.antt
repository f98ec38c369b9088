-- What the reader's state stands for.
use Rattle.std.specs.Prelude.{◌≡◌, ℕ, ◌<◌, ◌⊎◌, List, slice_range, Option, option_map}
use Rattle.hb_lex.specs.declared.class.Class.{Class}
use Rattle.hb_lex.specs.declared.class.Class.TheVariants.{Blank}
use Rattle.hb_lex.specs.declared.state.State.{State}
use Rattle.hb_lex.specs.declared.state.State.TheVariants.{Between, Word, WordPoint, Second, Number, Open, Colon, ArrowBegun, Point, PointOpen, Comment, CommentStar, CommentOpen}
use Rattle.hb_lex.specs.declared.token.Token.{Token}
use Rattle.hb_lex.specs.Machine.{Doing, between, in_word, word_point, in_second, in_number, opened, coloned, arrow_begun, pointed, point_opened, comment, comment_star, comment_open, Reading, at}

-- the state at place n of these bytes
abbrev pub doing : List ℕ → ℕ → State → Doing
doing bytes n Between = between
doing bytes n (Word f) = in_word f (slice_range bytes f n)
doing bytes n (WordPoint f p) = word_point f p
doing bytes n (Second f s) = in_second f (slice_range bytes s n)
doing bytes n (Number f) = in_number f
doing bytes n (Open f) = opened f
doing bytes n (Colon f) = coloned f
doing bytes n (ArrowBegun f) = arrow_begun f
doing bytes n (Point f) = pointed f
doing bytes n (PointOpen f) = point_opened f
doing bytes n (Comment d) = comment d
doing bytes n (CommentStar d) = comment_star d
doing bytes n (CommentOpen d) = comment_open d

-- what began, began before place n, and each comment took a byte
abbrev pub IsBefore : ℕ → State → Type 0
IsBefore n (Word f) = f < n
IsBefore n (WordPoint f p) = (f < n) × (p < n)
IsBefore n (Second f s) = s < n
IsBefore n (Point f) = f < n
IsBefore n (PointOpen f) = f < n
IsBefore n (Comment d) = d < n
IsBefore n (CommentStar d) = d < n
IsBefore n (CommentOpen d) = d < n
IsBefore n _ = Unit {0}

-- place n has a byte of the class, or is the end of the file, which acts as a blank
abbrev pub IsByteOrEnd : ℕ → ℕ → Class → Type 0
IsByteOrEnd len n c = (n < len) ⊎ ((n ≡ len) × (c ≡ Blank))

-- the reading, if there is a way on, at place n
abbrev pub reading : List ℕ → ℕ → List Token → Option State → Option Reading
reading bytes n ts next = option_map (λ s. at ts (doing bytes n s)) next
