-- Arguments from the last one back.
use Rattle.std.specs.Prelude.{◌≡◌, ℕ, zero, suc, ◌&&◌, Bool, true, false, Option, Some, None, length}
use Rattle.hb_tree.specs.Tree.{Tree, app, proj}
use Rattle.hb_tree.specs.declared.leaves.RecId.{RecId}
use Rattle.hb_calculus.specs.Declarations.{Record}
use Rattle.hb_calculus.specs.Contraction.{same_tree}

-- the argument before the last n
abbrev pub argument : Tree → ℕ → Option Tree
argument (app f a) zero = Some a
argument (app f a) (suc n) = argument f n
argument t n = None

-- the last n arguments are the first n projections of u
abbrev pub ends_with : Tree → RecId → ℕ → Tree → Bool
ends_with t r zero u = true
ends_with (app f a) r (suc n) u = same_tree a (proj r n u) && ends_with f r n u
ends_with t r (suc n) u = false

-- how many parameters and fields a record has
abbrev pub SizesAre : Option Record → Option (ℕ × ℕ) → Type 0
SizesAre (Some R) (Some p) = (p.0 ≡ length R.params) × (p.1 ≡ length R.fields)
SizesAre None None = Unit {0}
SizesAre o p = ⊥
