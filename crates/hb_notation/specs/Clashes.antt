-- When notations of one file contradict each other.
use Rattle.std.specs.Prelude.{ℕ, Bool, true, false, ◌==◌, ◌||◌, ◌&&◌, not, List}
use Rattle.std.specs.List.{list_any}
use Rattle.hb_notation.specs.declared.notation.Notation.{Notation}
use Rattle.hb_notation.specs.declared.notation.Side.{Side}
use Rattle.hb_notation.specs.declared.notation.Side.TheVariants.{Left, Right, Neither, Prefix}

-- the operator stands before its operand
abbrev pub is_prefix : Side → Bool
is_prefix Left = false
is_prefix Right = false
is_prefix Neither = false
is_prefix Prefix = true

abbrev pub is_left : Side → Bool
is_left Left = true
is_left Right = false
is_left Neither = false
is_left Prefix = false

abbrev pub is_right : Side → Bool
is_right Left = false
is_right Right = true
is_right Neither = false
is_right Prefix = false

abbrev pub is_neither : Side → Bool
is_neither Left = false
is_neither Right = false
is_neither Neither = true
is_neither Prefix = false

-- the sides are the same
abbrev pub same_side : Side → Side → Bool
same_side Left b = is_left b
same_side Right b = is_right b
same_side Neither b = is_neither b
same_side Prefix b = is_prefix b

abbrev pub same : Bool → Bool → Bool
same true b = b
same false b = not b

-- the notations are of one kind for one operator, or of one level with different kinds or associativities
abbrev pub clash : Notation → Notation → Bool
clash a b =
    ((a.op.0 == b.op.0) && same (is_prefix a.side) (is_prefix b.side))
    || ((a.level == b.level) && not (same_side a.side b.side))

-- one of the notations that are held clashes with the new one
abbrev pub any_clash : List Notation → Notation → Bool
any_clash held n = list_any (λ a. clash a n) held
