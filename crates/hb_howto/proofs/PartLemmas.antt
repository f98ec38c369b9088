-- The proper parts of lists of one, two and three.
use Rattle.std.proofs.Common.{◌≡◌, ◌≢◌, zero, suc, ◌⊎◌, inl, inr, List, [], ◌∷◌, arith, sym, subst, ◌∙◌}
use Rattle.std.specs.Prelude.{Contains}
use Rattle.std.proofs.lemmas.List.Elements.{All-head, All-tail}
use Rattle.hb_hier.specs.declared.known.Known.{Known}
use Rattle.hb_howto.specs.Filling.{AreDifferent, IsProperPart}

Contains-nothing : (x : Known) → ¬ (Contains [] x)
Contains-nothing x found = omega (arith, found.1)

-- what a list has is its first, or one of the rest
Contains-cases : (k : Known) (ks : List Known) (x : Known) → Contains (k ∷ ks) x → (k ≡ x) ⊎ Contains ks x
Contains-cases k ks x (zero, within, is) = inl is
Contains-cases k ks x (suc at, within, is) = inr (at, omega arith, is)

Contains-one : (k x : Known) → Contains (k ∷ []) x → k ≡ x
Contains-one k x found =
    elim (Contains-cases k [] x found) [ inl is ↦ is | inr none ↦ absurd (Contains-nothing x none) ]

Contains-two : (k l x : Known) → Contains (k ∷ l ∷ []) x → (k ≡ x) ⊎ (l ≡ x)
Contains-two k l x found =
    elim (Contains-cases k (l ∷ []) x found) [ inl is ↦ inl is | inr rest ↦ inr (Contains-one l x rest) ]

Contains-three : (k l m x : Known) → Contains (k ∷ l ∷ m ∷ []) x → (k ≡ x) ⊎ ((l ≡ x) ⊎ (m ≡ x))
Contains-three k l m x found =
    elim (Contains-cases k (l ∷ m ∷ []) x found) [ inl is ↦ inl is | inr rest ↦ inr (Contains-two l m x rest) ]

-- a fact on a list of one, or of two, at equal items
at-one : (P : List Known → Type 0) (k x : Known) → k ≡ x → P (x ∷ []) → P (k ∷ [])
at-one P k x is holds = subst (λ (y : Known). P (y ∷ [])) (sym is) holds

at-two : (P : List Known → Type 0) (k l x y : Known) → k ≡ x → l ≡ y → P (x ∷ y ∷ []) → P (k ∷ l ∷ [])
at-two P k l x y first second holds =
    subst (λ (z : Known). P (k ∷ z ∷ [])) (sym second) (subst (λ (z : Known). P (z ∷ y ∷ [])) (sym first) holds)

-- two equal items aren't different
not-both : (k x y : Known) → k ≡ x → k ≡ y → ¬ (AreDifferent (x ∷ y ∷ []))
not-both k x y first second different = All-head (λ l. x ≢ l) y [] different.0 (sym first ∙ second)

-- what no proper part has, by its length
pub part-of_one : (P : List Known → Type 0) (a : Known) → ¬ (P []) → (part : List Known) → IsProperPart part (a ∷ []) → ¬ (P part)
part-of_one P a none [] is holds = none holds
part-of_one P a none (x ∷ xs) is holds = omega (arith, is.fewer)

pub part-of_two : (P : List Known → Type 0) (a b : Known) → ¬ (P []) → ¬ (P (a ∷ [])) → ¬ (P (b ∷ [])) → (part : List Known) → IsProperPart part (a ∷ b ∷ []) → ¬ (P part)
part-of_two P a b none not_a not_b [] is holds = none holds
part-of_two P a b none not_a not_b (x ∷ []) is holds =
    elim (Contains-two a b x (All-head (Contains (a ∷ b ∷ [])) x [] is.each)) [
      | inl e ↦ not_a (at-one P a x e holds)
      | inr e ↦ not_b (at-one P b x e holds)
    ]
part-of_two P a b none not_a not_b (x ∷ y ∷ xs) is holds = omega (arith, is.fewer)

-- no one of three has the fact, and no two in any order
pub record NoneOfThree (P : List Known → Type 0) (a b c : Known) : Type 0 where
  pub none : ¬ (P [])
  pub first : ¬ (P (a ∷ []))
  pub second : ¬ (P (b ∷ []))
  pub third : ¬ (P (c ∷ []))
  pub first_second : ¬ (P (a ∷ b ∷ []))
  pub second_first : ¬ (P (b ∷ a ∷ []))
  pub first_third : ¬ (P (a ∷ c ∷ []))
  pub third_first : ¬ (P (c ∷ a ∷ []))
  pub second_third : ¬ (P (b ∷ c ∷ []))
  pub third_second : ¬ (P (c ∷ b ∷ []))

pub part-of_three : (P : List Known → Type 0) (a b c : Known) → NoneOfThree P a b c → (part : List Known) → IsProperPart part (a ∷ b ∷ c ∷ []) → AreDifferent part → ¬ (P part)
part-of_three P a b c never [] is different holds = never.none holds
part-of_three P a b c never (x ∷ []) is different holds =
    elim (Contains-three a b c x (All-head (Contains (a ∷ b ∷ c ∷ [])) x [] is.each)) [
      | inl e ↦ never.first (at-one P a x e holds)
      | inr (inl e) ↦ never.second (at-one P b x e holds)
      | inr (inr e) ↦ never.third (at-one P c x e holds)
    ]
part-of_three P a b c never (x ∷ y ∷ []) is different holds =
    elim (Contains-three a b c x (All-head (Contains (a ∷ b ∷ c ∷ [])) x (y ∷ []) is.each)) [
      | inl e ↦ elim in_second [
        | inl f ↦ not-both a x y e f different
        | inr (inl f) ↦ never.first_second (at-two P a b x y e f holds)
        | inr (inr f) ↦ never.first_third (at-two P a c x y e f holds)
      ]
      | inr (inl e) ↦ elim in_second [
        | inl f ↦ never.second_first (at-two P b a x y e f holds)
        | inr (inl f) ↦ not-both b x y e f different
        | inr (inr f) ↦ never.second_third (at-two P b c x y e f holds)
      ]
      | inr (inr e) ↦ elim in_second [
        | inl f ↦ never.third_first (at-two P c a x y e f holds)
        | inr (inl f) ↦ never.third_second (at-two P c b x y e f holds)
        | inr (inr f) ↦ not-both c x y e f different
      ]
    ]
  where
    in_second : (a ≡ y) ⊎ ((b ≡ y) ⊎ (c ≡ y))
    in_second = Contains-three a b c y (All-head (Contains (a ∷ b ∷ c ∷ [])) y [] (All-tail (Contains (a ∷ b ∷ c ∷ [])) x (y ∷ []) is.each))
part-of_three P a b c never (x ∷ y ∷ z ∷ zs) is different holds = omega (arith, is.fewer)
