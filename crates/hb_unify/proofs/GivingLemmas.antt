-- Places, one more at a time, and one written.
use Rattle.std.proofs.Common.{◌≡◌, ◌<◌, ◌+◌, ℕ, zero, suc, List, [], ◌∷◌, ◌++◌, length, map, take, set, get_or, refl, sym, ap, arith, Option, None, Some, option_map, false}
use Rattle.std.specs.Prelude.{slice_get}
use Rattle.hb_tree.specs.Tree.{Tree}
use Rattle.hb_holes.proofs.Sharing.{filled_shared}
use Rattle.hb_unify.specs.Settled.{in_value, is_unsettled, AreSettled}
use Rattle.std.proofs.lemmas.List.{map-append, map-set}
use Rattle.std.proofs.lemmas.Option.{slice_get-map, slice_get-get_or}
use Rattle.std.proofs.Math.Numerals.{suc-eq-add-one}
use Rattle.hb_term.specs.Meaning.{tree}
use Rattle.hb_term.specs.declared.term.Term.{Term}
use Rattle.hb_holes.specs.Holes.{Place, filled, written, refilled}
use Rattle.hb_holes.specs.Places.{place, places}
use Rattle.hb_holes.specs.declared.slot.Slot.{Slot}

pub take_suc : {A : Type 0} (xs : List A) (i : ℕ) (d : A) → i < length xs → take (suc i) xs ≡ take i xs ++ get_or xs i d ∷ []
take_suc [] i d h = let z : ⊥ = omega arith in absurd z
take_suc (x ∷ xs) zero d h = refl
take_suc (x ∷ xs) (suc i) d h = let k : i < length xs = omega arith in ap (λ l. x ∷ l) (take_suc xs i d k)

pub take_more : {A : Type 0} (xs : List A) (i : ℕ) (d : A) → i < length xs → take (i + 1) xs ≡ take i xs ++ get_or xs i d ∷ []
take_more xs i d h = rw (← suc-eq-add-one i) (take_suc xs i d h)

pub settle_more :
    (H : List Slot) (i : ℕ) (out : List Slot) (s d : Slot) → i < length H → d ≡ get_or H i d
    → places out ≡ map (refilled (places H)) (places (take i H)) → place s ≡ refilled (places H) (place d)
    → places (out ++ s ∷ []) ≡ map (refilled (places H)) (places (take (i + 1) H))
settle_more H i out s d h e k p =
    let t : take (i + 1) H ≡ take i H ++ d ∷ [] = rw (← e) at (take_more H i d h) in
    rw (t, map-append, map-append, map-append, k, p) refl

pub write_set :
    (H : List Slot) (i : ℕ) (d : Slot) (v : Term) → i < length H
    → places (set H i (record { depth = (get_or H i d).depth; value = Some v })) ≡ written (places H) i (tree v) (slice_get (places H) i)
write_set H i d v h = rw (map-set, slice_get-map, slice_get-get_or H i d h) refl

pub write_at_is :
    (H : List Slot) (i : ℕ) (d : Slot) (v : Term) → i < length H → d ≡ get_or H i d
    → places (set H i (record { depth = d.depth; value = Some v })) ≡ written (places H) i (tree v) (slice_get (places H) i)
write_at_is H i d v h e = rw (← e) at (write_set H i d v h)

-- places whose values have no holes
value_stays : (H : List Place) (d : ℕ) (o : Option Tree) → in_value o ≡ false → option_map (filled H d) o ≡ o
value_stays H d None h = refl
value_stays H d (Some t) h = ap Some (filled_shared t H d h)

refilled_stays : (H : List Place) (p : Place) → is_unsettled p ≡ false → refilled H p ≡ p
refilled_stays H p h = λ i. record { depth = p.depth; value = value_stays H p.depth p.value h i }

settled_map : (H ps : List Place) → AreSettled ps → map (refilled H) ps ≡ ps
settled_map H [] h = refl
settled_map H (p ∷ ps) h = λ i. refilled_stays H p h.0 i ∷ settled_map H ps h.1 i

pub settled_stay : (ps : List Place) → AreSettled ps → ps ≡ map (refilled ps) ps
settled_stay ps h = sym (settled_map ps ps h)

pub settled_more : (xs : List Slot) (i : ℕ) (d : Slot) → i < length xs → d ≡ get_or xs i d → AreSettled (places (take i xs)) → is_unsettled (place d) ≡ false → AreSettled (places (take (i + 1) xs))
settled_more xs i d l e h n =
    let t : take (i + 1) xs ≡ take i xs ++ d ∷ [] = rw (← e) at (take_more xs i d l) in
    rw t (added (take i xs) d h n)
  where
    added : (ys : List Slot) (d : Slot) → AreSettled (places ys) → is_unsettled (place d) ≡ false → AreSettled (places (ys ++ d ∷ []))
    added [] d h n = (n, tt)
    added (y ∷ ys) d h n = (h.0, added ys d h.1 n)
