-- Operands by their levels: an operand of an operator of level n is of level n at most where the operator's
-- associativity allows the same level on that side, and below n else.
use Rattle.std.specs.Prelude.{ℕ, ◌<◌, ◌≤◌}
use Rattle.hb_notation.specs.declared.notation.Side.{Side}
use Rattle.hb_notation.specs.declared.notation.Side.TheVariants.{Left, Right, Neither, Prefix}

-- an operand of level m may stand to the right of an operator of this side and of level n
abbrev pub FitsRight : Side → (n m : ℕ) → Type 0
FitsRight Left n m = m < n
FitsRight Right n m = m ≤ n
FitsRight Neither n m = m < n
FitsRight Prefix n m = m ≤ n

-- an operand of level m may stand to the left of an operator of this side and of level n
abbrev pub FitsLeft : Side → (n m : ℕ) → Type 0
FitsLeft Left n m = m ≤ n
FitsLeft Right n m = m < n
FitsLeft Neither n m = m < n
FitsLeft Prefix n m = ⊥
