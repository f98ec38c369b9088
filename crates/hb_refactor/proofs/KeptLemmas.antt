-- What is kept so far.
use Rattle.std.proofs.Common.{◌≡◌, ℕ, ◌+◌, ◌<◌, ◌≤◌, inl, inr, List, Some, None, length, slice_get, subst, arith}
use Rattle.std.proofs.lemmas.Bool.{cases_lt}
use Rattle.std.proofs.lemmas.Option.{slice_get_within, slice_get_cases}
use Rattle.hb_hier.specs.declared.known.Known.{Known}
use Rattle.hb_refactor.specs.Keeping.{Both, AllKept, AllStructuresKept, Keeps, KeepsStructure}

pub kept_none : (b : Both) → AllKept b 0
kept_none b = λ i k h e. absurd (omega (arith, h))

pub kept_more : (b : Both) (n : ℕ) (k : Known) → AllKept b n → slice_get b.old.order n ≡ Some k → Keeps b k → AllKept b (n + 1)
kept_more b n k all at here = λ i k' h e. elim (cases_lt i n) [
  | inl l ↦ all i k' l e
  | inr g ↦ let j : i ≡ n = omega (arith, h, g) in
      let f : slice_get b.old.order n ≡ Some k' = subst (λ (m : ℕ). slice_get b.old.order m ≡ Some k') j e in
      let s : k ≡ k' = cc in
      subst (λ (x : Known). Keeps b x) s here
]

-- where nothing stands at a place, all are kept that stand before it
pub kept_past : (b : Both) (n m : ℕ) → AllKept b n → slice_get b.old.order n ≡ None → AllKept b m
kept_past b n m all end = λ i k h e. elim (cases_lt i n) [
  | inl l ↦ all i k l e
  | inr g ↦ absurd (past b.old.order n i g (slice_get_within b.old.order i k e) end)
]
  where
    past : (ks : List Known) (n i : ℕ) → n ≤ i → i < length ks → slice_get ks n ≡ None → ⊥
    past ks n i g h e =
        elim (slice_get_cases ks n).1 [
          | inl p ↦ let f : slice_get ks n ≡ Some p.0 = p.2 in absurd (cc)
          | inr p ↦ absurd (omega (arith, p.0, g, h))
        ]

pub structures_none : (b : Both) → AllStructuresKept b 0
structures_none b = λ i h. absurd (omega (arith, h))

pub structures_more : (b : Both) (n : ℕ) → AllStructuresKept b n → KeepsStructure b (record { 0 = n }) → AllStructuresKept b (n + 1)
structures_more b n all here = λ i h. elim (cases_lt i n) [
  | inl l ↦ all i l
  | inr g ↦ let j : n ≡ i = omega (arith, h, g) in subst (λ (m : ℕ). KeepsStructure b (record { 0 = m })) j here
]
