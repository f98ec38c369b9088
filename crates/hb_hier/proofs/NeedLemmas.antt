-- The need of a set, found one mixin after another by joins.
use Rattle.std.proofs.Common.{◌≡◌, ℕ, ◌+◌, ◌<◌, Bool, true, false, true≢false, List, length, Option, None, Some, refl, sym, ◌∙◌, subst, ◌⊎◌, inl, inr, arith}
use Rattle.std.proofs.lemmas.Bool.{cases_lt}
use Rattle.hb_sets.specs.Set.{Set, In, AllBelow, contains}
use Rattle.hb_sets.proofs.SetLemmas.{Inside-itself, Inside-through}
use Rattle.hb_order.specs.declared.ids.StructId.{StructId}
use Rattle.hb_order.specs.Heirs.{mix, IsHeir}
use Rattle.hb_order.specs.Givings.{Giving, condition, binder, Asks}
use Rattle.hb_order.specs.Needs.{IsNeed, HoldsAsked, AskedDeclared}
use Rattle.hb_hier.specs.declared.need.Need.{Need}
use Rattle.hb_hier.specs.declared.need.Need.TheVariants.{Nothing, Least, Missing}
use Rattle.hb_hier.specs.Least.{AskedBelow, HoldsBelow, IsFoundBelow, IsFound, IsFoundAnd, IsFoundAfter}

module _ (h : List Set) (gs : List Giving) (x : Set) (i : ℕ) where
  -- what was asked below n + 1 was asked below n, or for n
  asked-cases : (n t : ℕ) → AskedBelow gs x i (n + 1) t → AskedBelow gs x i n t ⊎ (In x n × Asks gs n i t)
  asked-cases n t (m, lt, member, asks) = elim (cases_lt m n) [
    | inl before ↦ inl (m, before, member, asks)
    | inr from ↦ let e : m ≡ n = omega (arith, lt, from) in inr (subst (λ (k : ℕ). In x k) e member, subst (λ (k : ℕ). Asks gs k i t) e asks)
  ]

  asked-more : (n t : ℕ) → AskedBelow gs x i n t → AskedBelow gs x i (n + 1) t
  asked-more n t (m, lt, member, asks) = (m, omega (arith, lt), member, asks)

  -- where nothing more is asked, what was found stays
  pub found-same : (n : ℕ) (need : Need) → ((t : ℕ) → In x n → ¬ (Asks gs n i t)) → IsFoundBelow h gs x i n need → IsFoundBelow h gs x i (n + 1) need
  found-same n Nothing none found = λ t asked. elim (asked-cases n t asked) [ inl before ↦ found t before | inr at ↦ none t at.0 at.1 ]
  found-same n (Least s) none found = record {
    declared = found.declared;
    some = (found.some.0, asked-more n found.some.0 found.some.1);
    holds = λ t asked. elim (asked-cases n t asked) [ inl before ↦ found.holds t before | inr at ↦ absurd (none t at.0 at.1) ];
    least = λ k lk holds. found.least k lk (λ t asked. holds t (asked-more n t asked));
  }
  found-same n Missing none found = record {
    some = (found.some.0, asked-more n found.some.0 found.some.1);
    none = λ k lk holds. found.none k lk (λ t asked. holds t (asked-more n t asked));
  }

  one-asked : (n t u : ℕ) → Asks gs n i t → Asks gs n i u → u ≡ t
  one-asked n t u asks other = some_same (sym other ∙ asks)
    where
      some_same : {a b : ℕ} → Some a ≡ Some b → a ≡ b
      some_same e = cc

  -- where structure t is asked for n
  pub found-more : (n : ℕ) (need : Need) (t : StructId) (result : Need) → t.0 < length h → In x n → Asks gs n i t.0 → IsFoundBelow h gs x i n need → IsFoundAnd h need t result → IsFoundBelow h gs x i (n + 1) result
  found-more n Nothing t result lt member asks found and = subst (IsFoundBelow h gs x i (n + 1)) (sym and) (record {
    declared = lt;
    some = (t.0, (n, omega arith, member, asks));
    holds = λ u asked. elim (asked-cases n u asked) [ inl before ↦ absurd (found u before) | inr at ↦ subst (λ (v : ℕ). IsHeir h t.0 v) (sym (one-asked n t.0 u asks at.1)) (Inside-itself (mix h t.0)) ];
    least = λ k lk holds. holds t.0 (n, omega arith, member, asks);
  })
  found-more n (Least s) t Nothing lt member asks found and = absurd and
  found-more n (Least s) t (Least j) lt member asks found and = record {
    declared = and.heir.declared;
    some = (t.0, (n, omega arith, member, asks));
    holds = λ u asked. elim (asked-cases n u asked) [
      | inl before ↦ Inside-through (mix h u) (mix h s.0) (mix h j.0) (found.holds u before) and.heir.left
      | inr at ↦ subst (λ (v : ℕ). IsHeir h j.0 v) (sym (one-asked n t.0 u asks at.1)) and.heir.right
    ];
    least = λ k lk holds. and.least k (record {
      declared = lk;
      left = found.least k lk (λ u asked. holds u (asked-more n u asked));
      right = holds t.0 (n, omega arith, member, asks);
    });
  }
  found-more n (Least s) t Missing lt member asks found and = record {
    some = (t.0, (n, omega arith, member, asks));
    none = λ k lk holds. and k (record {
      declared = lk;
      left = found.least k lk (λ u asked. holds u (asked-more n u asked));
      right = holds t.0 (n, omega arith, member, asks);
    });
  }
  found-more n Missing t result lt member asks found and = subst (IsFoundBelow h gs x i (n + 1)) (sym and) (record {
    some = (t.0, (n, omega arith, member, asks));
    none = λ k lk holds. found.none k lk (λ u asked. holds u (asked-more n u asked));
  })

  -- the step for mixin n
  pub found-after : AskedDeclared h gs → (n : ℕ) (need result : Need) → IsFoundAfter h (contains x n) (binder (condition gs n) i) need result → IsFoundBelow h gs x i n need → IsFoundBelow h gs x i (n + 1) result
  found-after declared n need result after found = by (contains x n) refl (binder (condition gs n) i) refl after
    where
      by : (b : Bool) → contains x n ≡ b → (o : Option ℕ) → binder (condition gs n) i ≡ o → IsFoundAfter h b o need result → IsFoundBelow h gs x i (n + 1) result
      by false off o is same = subst (IsFoundBelow h gs x i (n + 1)) (sym same) (found-same n need (λ t member asks. true≢false (sym member ∙ off)) found)
      by true on None is same = subst (IsFoundBelow h gs x i (n + 1)) (sym same) (found-same n need (λ t member asks. none_some (sym is ∙ asks)) found)
        where
          none_some : {t : ℕ} → None ≡ Some t → ⊥
          none_some e = cc
      by true on (Some t) is and = found-more n need (record { 0 = t }) result (declared n i t is) on is found and

  -- at first nothing was asked
  pub found-first : IsFoundBelow h gs x i 0 Nothing
  found-first = λ t asked. absurd (omega (arith, asked.1))

  -- at last all was asked
  module _ (n : ℕ) (small : AllBelow x n) where
    asked-all : (m t : ℕ) → In x m → Asks gs m i t → AskedBelow gs x i n t
    asked-all m t member asks = (m, small m member, member, asks)

    holds-below : (k : ℕ) → HoldsAsked h gs x i k → HoldsBelow h gs x i n k
    holds-below k holds = λ t asked. holds.of_each asked.0 t asked.2 asked.3

    pub found-all : (need : Need) → IsFoundBelow h gs x i n need → IsFound h gs x i need
    found-all Nothing found = λ m t member asks. found t (asked-all m t member asks)
    found-all (Least s) found = record {
      asked = (found.some.1.0, found.some.0, found.some.1.2, found.some.1.3);
      holds = record { declared = found.declared; of_each = λ m t member asks. found.holds t (asked-all m t member asks) };
      least = λ k holds. found.least k holds.declared (holds-below k holds);
    }
    found-all Missing found = λ o. refuse o
      where
        refuse : (o : Option ℕ) → ¬ (IsNeed h gs x i o)
        refuse None need = need found.some.1.0 found.some.0 found.some.1.2 found.some.1.3
        refuse (Some s) need = found.none s need.holds.declared (holds-below s need.holds)
