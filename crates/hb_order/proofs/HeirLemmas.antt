-- Inclusion of the sets of structures when a structure is added.
use Rattle.std.proofs.Common.{◌≡◌, ℕ, ◌<◌, List, [], ◌∷◌, ◌++◌, length, sym, subst, true≢false, ◌∙◌, ◌⊎◌, inl, inr}
use Rattle.std.proofs.lemmas.Bool.{cases_Bool}
use Rattle.std.proofs.lemmas.List.{get_or_append_left, get_or_push}
use Rattle.hb_sets.specs.Set.{Set, Inside, empty, is_subset}
use Rattle.hb_order.specs.Heirs.{mix, IsHeir}

-- inclusion holds or doesn't
pub Inside-cases : (s t : Set) → Inside s t ⊎ (¬ (Inside s t))
Inside-cases s t = elim (cases_Bool (is_subset s t)) [ inl holds ↦ inl holds | inr fails ↦ inr (λ holds. true≢false (sym holds ∙ fails)) ]

pub Inside-along : (s s' t t' : Set) → s ≡ s' → t ≡ t' → Inside s t → Inside s' t'
Inside-along s s' t t' p q holds = subst (λ (u : Set). Inside u t') p (subst (λ (u : Set). Inside s u) q holds)

pub mix-old : (h : List Set) (x : Set) (s : ℕ) → s < length h → mix (h ++ x ∷ []) s ≡ mix h s
mix-old h x s lt = get_or_append_left h (x ∷ []) empty s lt

pub mix-new : (h : List Set) (x : Set) (s : ℕ) → length h ≡ s → mix (h ++ x ∷ []) s ≡ x
mix-new h x s at = get_or_push h x empty s at

module _ (h : List Set) (x : Set) where
  pub heir-of_more : (a b : ℕ) → a < length h → b < length h → IsHeir (h ++ x ∷ []) a b → IsHeir h a b
  heir-of_more a b la lb = Inside-along _ _ _ _ (mix-old h x b lb) (mix-old h x a la)

  pub heir-in_more : (a b : ℕ) → a < length h → b < length h → IsHeir h a b → IsHeir (h ++ x ∷ []) a b
  heir-in_more a b la lb = Inside-along _ _ _ _ (sym (mix-old h x b lb)) (sym (mix-old h x a la))

  -- the new structure is an heir of those whose sets it holds
  pub new-holds : (n b : ℕ) → length h ≡ n → b < length h → IsHeir (h ++ x ∷ []) n b → Inside (mix h b) x
  new-holds n b at lb = Inside-along _ _ _ _ (mix-old h x b lb) (mix-new h x n at)

  pub holds-new : (n b : ℕ) → length h ≡ n → b < length h → Inside (mix h b) x → IsHeir (h ++ x ∷ []) n b
  holds-new n b at lb = Inside-along _ _ _ _ (sym (mix-old h x b lb)) (sym (mix-new h x n at))

  -- an older one is an heir of the new one where it holds the new set
  pub older-holds : (a n : ℕ) → a < length h → length h ≡ n → IsHeir (h ++ x ∷ []) a n → Inside x (mix h a)
  older-holds a n la at = Inside-along _ _ _ _ (mix-new h x n at) (mix-old h x a la)
