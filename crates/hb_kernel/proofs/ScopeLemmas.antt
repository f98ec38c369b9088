-- Contexts and the types of their variables.
use Rattle.std.proofs.Common.{◌≡◌, ℕ, zero, suc, ◌+◌, ◌<◌, ◌≤◌, List, [], ◌∷◌, length, subst, sym, refl, arith}
use Rattle.std.specs.Prelude.{Some, None, slice_get}
use Rattle.std.proofs.lemmas.Option.{none-some}
use Rattle.hb_tree.specs.Tree.{Tree, loose}
use Rattle.hb_calculus.proofs.Options.{Some-injective}
use Rattle.hb_kernel.specs.Contexts.{IsStacked}

-- the type of a variable is scoped in the types behind it
pub stacked-at : (G : List Tree) (v : ℕ) (t : Tree) → IsStacked G → slice_get G v ≡ Some t → loose t + v + 1 ≤ length G
stacked-at [] v t h e = absurd (none-some t e)
stacked-at (x ∷ G) zero t h e = let g = subst (λ y. loose y ≤ length G) (Some-injective x t e) h.0 in omega arith
stacked-at (x ∷ G) (suc v) t h e = let g = stacked-at G v t h.1 e in omega arith

pub is-within : (G : List Tree) (v : ℕ) → v < length G → slice_get G v ≡ None → ⊥
is-within [] v h e = omega arith
is-within (x ∷ G) zero h e = none-some x (sym e)
is-within (x ∷ G) (suc v) h e = is-within G v (omega arith) e

-- there is something at each place of a list
pub field-at : (xs : List Tree) (i : ℕ) → i < length xs → (x : Tree) × (slice_get xs i ≡ Some x)
field-at [] i h = absurd (let k : ⊥ = omega arith in k)
field-at (x ∷ xs) zero h = (x, refl)
field-at (x ∷ xs) (suc i) h = field-at xs i (omega arith)
