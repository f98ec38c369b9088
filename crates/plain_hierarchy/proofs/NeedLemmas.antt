-- Where no structure is the need at a place, there is a need exactly where nothing was asked.
use Rattle.std.proofs.Common.{ℕ, Bool, true, false, true≢false, not, IsTrue, ◌↔◌, List, Option, None, Some, refl, sym}
use Rattle.hb_sets.specs.Set.{Set}
use Rattle.hb_order.specs.Givings.{Giving}
use Rattle.hb_order.specs.Needs.{IsNeed, IsNeeded}
use Rattle.plain_hierarchy.specs.Scans.{IsAsked, HasNeed}

module _ (h : List Set) (gs : List Giving) (x : Set) (i : ℕ) where
  pub none-needed : ((s : ℕ) → ¬ (IsNeeded h gs x i s)) → (asked : Bool) → IsTrue asked ↔ IsAsked gs x i → IsTrue (not asked) ↔ HasNeed h gs x i
  none-needed none false iff = (
    λ _. (None, λ m t member asks. true≢false (sym (iff.1 (m, t, member, asks)))),
    λ _. refl,
  )
  none-needed none true iff = (
    λ off. absurd (true≢false (sym off)),
    λ has. absurd (refuse has.0 has.1),
  )
    where
      refuse : (o : Option ℕ) → IsNeed h gs x i o → ⊥
      refuse None nothing = let a = iff.0 refl in nothing a.0 a.1 a.2 a.3
      refuse (Some s) needed = none s needed
