-- Where no variable of an answer passes 32 bits.
use Rattle.std.specs.Prelude.{◌≡◌, ℕ, ◌+◌, ◌<◌, ◌≤◌, ◌^◌}
use Rattle.hb_tree.specs.Tree.{Tree, sort, rel, pi, lam, app, const, proj, hole}

-- each variable that lifting by n at k raises stays below 2^32
abbrev pub LiftFits : Tree → ℕ → ℕ → Type 0
LiftFits (sort s) n k = Unit {0}
LiftFits (rel v) n k = k ≤ v → v + n < 2 ^ 32
LiftFits (pi a b) n k = LiftFits a n k × LiftFits b n (k + 1)
LiftFits (lam a b) n k = LiftFits a n k × LiftFits b n (k + 1)
LiftFits (app f a) n k = LiftFits f n k × LiftFits a n k
LiftFits (const c) n k = Unit {0}
LiftFits (proj r i t) n k = LiftFits t n k
LiftFits (hole h) n k = Unit {0}

-- each variable of a stays below 2^32 where a is put for variable k
abbrev pub SubstFits : Tree → Tree → ℕ → Type 0
SubstFits (sort s) a k = Unit {0}
SubstFits (rel v) a k = v ≡ k → LiftFits a k 0
SubstFits (pi t u) a k = SubstFits t a k × SubstFits u a (k + 1)
SubstFits (lam t u) a k = SubstFits t a k × SubstFits u a (k + 1)
SubstFits (app f t) a k = SubstFits f a k × SubstFits t a k
SubstFits (const c) a k = Unit {0}
SubstFits (proj r i t) a k = SubstFits t a k
SubstFits (hole h) a k = Unit {0}
