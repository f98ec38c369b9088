-- Items, one after another.
use Rattle.std.proofs.Common.{◌≡◌, ℕ, zero, suc, ◌+◌, ◌<◌, subst, arith, List, [], ◌∷◌, length, take, get_or}
use Rattle.hb_base.specs.declared.name_id.NameId.{NameId}
use Rattle.hb_env.specs.declared.refusal.Refusal.{Refusal}
use Rattle.hb_hier.specs.Hierarchy.{Hierarchy}
use Rattle.hb_raw.specs.declared.word.Item.{Item}
use Rattle.hb_items.specs.Items.{IsItem, AreItems, ItemCause, ItemsCause, item_here, item_later}

items_more : (h : Hierarchy) (c : NameId) (is : List Item) (i : ℕ) (d : Item) → i < length is → IsItem h c (get_or is i d) → AreItems h c (take i is) → AreItems h c (take (suc i) is)
items_more h c [] i d lt item all = absurd (omega (arith, lt))
items_more h c (x ∷ is) zero d lt item all = (item, tt)
items_more h c (x ∷ is) (suc i) d lt item all = (all.0, items_more h c is i d (omega (arith, lt)) item all.1)

pub items_turn : (h : Hierarchy) (c : NameId) (is : List Item) (i : ℕ) (d : Item) → i < length is → IsItem h c (get_or is i d) → AreItems h c (take i is) → AreItems h c (take (i + 1) is)
items_turn h c is i d lt item all = subst (λ k. AreItems h c (take k is)) (let e : suc i ≡ i + 1 = omega arith in e) (items_more h c is i d lt item all)

pub items_cause : (h : Hierarchy) (c : NameId) (is : List Item) (i : ℕ) (d : Item) (r : Refusal) → i < length is → AreItems h c (take i is) → ItemCause h c (get_or is i d) r → ItemsCause h c is r
items_cause h c [] i d r lt all cause = absurd (omega (arith, lt))
items_cause h c (x ∷ is) zero d r lt all cause = item_here cause
items_cause h c (x ∷ is) (suc i) d r lt all cause = item_later all.0 (items_cause h c is i d r (omega (arith, lt)) all.1 cause)
