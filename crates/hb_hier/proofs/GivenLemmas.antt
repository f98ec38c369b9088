-- The structures that were asked are declared.
use Rattle.std.proofs.Common.{◌≡◌, ℕ, zero, suc, ◌<◌, Bool, true, false, cond, ◌&&◌, List, [], ◌∷◌, ◌++◌, length, refl, sym, subst, ◌⊎◌, inl, inr, arith}
use Rattle.std.proofs.lemmas.Bool.{cases_lt}
use Rattle.std.proofs.lemmas.List.{length_push, get_or_append_left, get_or_push}
use Rattle.hb_sets.specs.Set.{contains}
use Rattle.hb_order.specs.Givings.{condition}
use Rattle.hb_tree.specs.declared.leaves.ConstId.{ConstId}
use Rattle.hb_givings.specs.Givings.{Given, ungiven, same_const, givings_at}
use Rattle.hb_hier.specs.Giving.{BindersBelow, AllBindersBelow}

condition-step : (k : ConstId) (m : ℕ) (g : Given) (gs : List Given) → condition (givings_at (g ∷ gs) k) m ≡ cond (same_const g.carrier k && contains g.giving.gives m) g.giving.binders (condition (givings_at gs k) m)
condition-step k m g gs = by (same_const g.carrier k)
  where
    by : (b : Bool) → condition (cond b (g.giving ∷ givings_at gs k) (givings_at gs k)) m ≡ cond (b && contains g.giving.gives m) g.giving.binders (condition (givings_at gs k) m)
    by true = refl
    by false = refl

-- the structures that a condition asks are declared
pub asked-below : (n : ℕ) (gs : List Given) (k : ConstId) → AllBindersBelow n gs → (m : ℕ) → BindersBelow n (condition (givings_at gs k) m)
asked-below n [] k all m = λ i t is. absurd cc
asked-below n (g ∷ gs) k all m =
    subst (BindersBelow n) (sym (condition-step k m g gs)) (by (same_const g.carrier k && contains g.giving.gives m) (asked-below n gs k (λ i lt. all (suc i) (omega (arith, lt))) m))
  where
    by : (b : Bool) → BindersBelow n (condition (givings_at gs k) m) → BindersBelow n (cond b g.giving.binders (condition (givings_at gs k) m))
    by true rest = all zero (omega arith)
    by false rest = rest

place-cases : (gs : List Given) (g : Given) (i : ℕ) → i < length (gs ++ g ∷ []) → (i < length gs) ⊎ (length gs ≡ i)
place-cases gs g i lt = elim (cases_lt i (length gs)) [ inl old ↦ inl old | inr new ↦ inr (omega (arith, length_push gs g, lt, new)) ]

below-push : (n : ℕ) (gs : List Given) (g : Given) → AllBindersBelow n gs → BindersBelow n g.giving.binders → AllBindersBelow n (gs ++ g ∷ [])
below-push n gs g all new i lt = elim (place-cases gs g i lt) [
  | inl old ↦ subst (λ (x : Given). BindersBelow n x.giving.binders) (sym (get_or_append_left gs (g ∷ []) ungiven i old)) (all i old)
  | inr at ↦ subst (λ (x : Given). BindersBelow n x.giving.binders) (sym (get_or_push gs g ungiven i at)) new
]

-- so they are after one more giving
pub below-after : (n : ℕ) (gs gs' : List Given) (g : Given) → gs' ≡ gs ++ g ∷ [] → AllBindersBelow n gs → BindersBelow n g.giving.binders → AllBindersBelow n gs'
below-after n gs gs' g is all new = subst (AllBindersBelow n) (sym is) (below-push n gs g all new)
