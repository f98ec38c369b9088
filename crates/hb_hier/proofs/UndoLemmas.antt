-- What the lists keep when they are cut.
use Rattle.std.proofs.Common.{◌≡◌, ℕ, ◌<◌, ◌≤◌, List, length, min, take, slice_index_or, sym, ap, ◌∙◌, subst, arith}
use Rattle.std.proofs.lemmas.List.{length-take, length-take-le, get_or-take}
use Rattle.hb_givings.specs.Givings.{Given, ungiven}
use Rattle.hb_hier.specs.Hierarchy.{Ended, Grouped}
use Rattle.hb_hier.specs.Giving.{BindersBelow, AllBindersBelow}
use Rattle.hb_hier.specs.Keeping.{AreDistinct}
use Rattle.hb_hier.proofs.EndingLemmas.{distinct-take}

below-take : (structures : List Grouped) (gs : List Given) (s n : ℕ) → AllBindersBelow (length structures) gs → AllBindersBelow s (take n gs) → AllBindersBelow (length (take s structures)) (take n gs)
below-take structures gs s n all kept i lt j t asks =
    let small : i < n = omega (arith, length-take n gs, lt) in
    let old = subst (λ (g : Given). BindersBelow (length structures) g.giving.binders) (sym (get_or-take n gs i ungiven small)) (all i (omega (arith, length-take n gs, lt))) in
    omega (arith, length-take s structures, kept i lt j t asks, old j t asks)

pub length-of : {X : Type 0} (n : ℕ) (xs ys : List X) → ys ≡ take n xs → length ys ≡ min n (length xs)
length-of n xs ys is = ap length is ∙ length-take n xs

-- what each of the kept instances asks, and no more
pub kept_below : (gs : List Given) (s n : ℕ) → n ≤ length gs → ((i : ℕ) → i < n → BindersBelow s (slice_index_or gs i ungiven).giving.binders) → AllBindersBelow s (take n gs)
kept_below gs s n le all i lt =
    let small : i < n = omega (arith, length-take n gs, lt) in
    subst (λ (g : Given). BindersBelow s g.giving.binders) (sym (get_or-take n gs i ungiven small)) (all i small)

-- and the other way round
pub below_kept : (gs : List Given) (s n : ℕ) → n ≤ length gs → AllBindersBelow s (take n gs) → (i : ℕ) → i < n → BindersBelow s (slice_index_or gs i ungiven).giving.binders
below_kept gs s n le all i lt =
    subst (λ (g : Given). BindersBelow s g.giving.binders) (get_or-take n gs i ungiven lt) (all i (omega (arith, length-take-le n gs le, lt)))

pub few-take : {X : Type 0} (n most : ℕ) (xs ys : List X) → ys ≡ take n xs → length xs ≤ most → length ys ≤ most
few-take n most xs ys is le = omega (arith, ap length is, length-take n xs, le)

pub below-cut : (structures cut : List Grouped) (gs gs' : List Given) (s n : ℕ) → cut ≡ take s structures → gs' ≡ take n gs → AllBindersBelow (length structures) gs → AllBindersBelow s (take n gs) → AllBindersBelow (length cut) gs'
below-cut structures cut gs gs' s n is_cut is_gs all kept = rw (is_cut, is_gs) (below-take structures gs s n all kept)

pub distinct-cut : (es es' : List Ended) (n : ℕ) → es' ≡ take n es → AreDistinct es → AreDistinct es'
distinct-cut es es' n is distinct = subst AreDistinct (sym is) (distinct-take es n distinct)
