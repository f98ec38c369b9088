-- One more item of a list is changed.
use Rattle.std.proofs.Common.{◌≡◌, ℕ, ◌+◌, ◌<◌, List, length, get_or, sym, ◌∙◌, subst, inl, inr, arith}
use Rattle.std.proofs.Common.{set, get_or-set_same, get_or-set_other}
use Rattle.std.proofs.lemmas.Bool.{cases_lt}
use Rattle.std.proofs.lemmas.List.{length-set, get_or_read}
use Rattle.hb_joins.specs.Changes.{IsChanged}

module _ {X : Type 0} (R : ℕ → X → X → Type 0) (d : X) where
  changed-more : (old new : List X) (n : ℕ) (x : X) → IsChanged R d old new n → n < length new → R n (get_or old n d) x → IsChanged R d old (set new n x) (n + 1)
  changed-more old new n x so lt is = record {
    long = length-set new n x ∙ so.long;
    done = λ k before. elim (cases_lt k n) [
      | inl earlier ↦ subst (R k (get_or old k d)) (sym (get_or-set_other new n k x d (λ e. absurd (omega (arith, e, earlier))))) (so.done k earlier)
      | inr late ↦ at k (omega (arith, before, late))
    ];
    rest = λ k le. get_or-set_other new n k x d (λ e. absurd (omega (arith, e, le))) ∙ so.rest k (omega (arith, le));
  }
    where
      at : (k : ℕ) → n ≡ k → R k (get_or old k d) (get_or (set new n x) k d)
      at k e = subst (λ (i : ℕ). R i (get_or old i d) (get_or (set new n x) i d)) e (subst (R n (get_or old n d)) (sym (get_or-set_same new n x d lt)) is)

  -- the item y that was read at n became x
  pub changed-read : (old new : List X) (n : ℕ) (y x : X) → IsChanged R d old new n → n < length new → y ≡ get_or new n y → R n y x → IsChanged R d old (set new n x) (n + 1)
  changed-read old new n y x so lt read is =
      changed-more old new n x so lt (subst (λ (z : X). R n z x) (get_or_read new n y lt read d ∙ so.rest n (omega arith)) is)
