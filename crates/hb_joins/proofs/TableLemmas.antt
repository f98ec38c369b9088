-- The table of joins, when a structure is added or the last ones are cut.
use Rattle.std.proofs.Common.{◌≡◌, ℕ, ◌+◌, ◌<◌, ◌≤◌, Bool, true, false, true≢false, cond, nat_lt, min, List, [], ◌∷◌, ◌++◌, length, take, Option, None, Some, refl, sym, ap, ◌∙◌, subst, inl, inr, arith}
use Rattle.std.proofs.lemmas.Bool.{cases_lt}
use Rattle.std.proofs.lemmas.Bool.Decides.{nat_tests}
use Rattle.std.proofs.lemmas.List.{length_push, length-take, get_or-take, get_or_append_left, get_or_push}
use Rattle.hb_sets.specs.Set.{Set, empty, is_subset}
use Rattle.hb_sets.proofs.SetLemmas.{Inside-itself}
use Rattle.hb_order.specs.declared.ids.StructId.{StructId}
use Rattle.hb_order.specs.Heirs.{mix, IsHeir, IsCommonHeir, IsJoin}
use Rattle.hb_order.specs.Allowed.{IsAllowed, AllAllowed}
use Rattle.hb_order.proofs.HeirLemmas.{Inside-along, heir-of_more, heir-in_more, new-holds, holds-new, older-holds}
use Rattle.hb_order.proofs.AllowedLemmas.{place-cases, old-declared, new-declared, holds-join, lawful}
use Rattle.hb_joins.specs.Changes.{IsChanged}
use Rattle.hb_joins.specs.Table.{Entries, entry_at, row_at, IsEntry, IsRow, IsTable, new_entry, IsNewRow, filled, IsFilled, kept, IsCut}

-- the same pair the other way round
pub turned-heir : (h : List Set) (a b j : ℕ) → IsCommonHeir h a b j → IsCommonHeir h b a j
turned-heir h a b j common = record { declared = common.declared; left = common.right; right = common.left }

pub turned-join : (h : List Set) (a b j : ℕ) → IsJoin h a b j → IsJoin h b a j
turned-join h a b j join = record { heir = turned-heir h a b j join.heir; least = λ k common. join.least k (turned-heir h b a k common) }

module _ (h : List Set) (x : Set) where
  common-of_more : (a b k : ℕ) → a < length h → b < length h → k < length h → IsCommonHeir (h ++ x ∷ []) a b k → IsCommonHeir h a b k
  common-of_more a b k la lb lk common = record { declared = lk; left = heir-of_more h x k a lk la common.left; right = heir-of_more h x k b lk lb common.right }

  -- an allowed set keeps a join
  join-kept : IsAllowed h x → (a b j : ℕ) → a < length h → b < length h → IsJoin h a b j → IsJoin (h ++ x ∷ []) a b j
  join-kept allowed a b j la lb join = record {
    heir = record {
      declared = old-declared h x j join.heir.declared;
      left = heir-in_more h x j a join.heir.declared la join.heir.left;
      right = heir-in_more h x j b join.heir.declared lb join.heir.right;
    };
    least = λ k common. elim (place-cases h x k common.declared) [
      | inl old ↦ heir-in_more h x k j old join.heir.declared (join.least k (common-of_more a b k la lb old common))
      | inr new ↦ holds-new h x k j new join.heir.declared (holds-join h x allowed a b j la lb join (new-holds h x k a new la common.left) (new-holds h x k b new lb common.right))
    ];
  }

  -- the new structure is its only heir
  only-heir : IsAllowed h x → (k : ℕ) → k < length (h ++ x ∷ []) → IsHeir (h ++ x ∷ []) k (length h) → length h ≡ k
  only-heir allowed k lt is =
      elim (place-cases h x k lt) [ inl old ↦ absurd (allowed.not_above k old (older-holds h x k (length h) old refl is)) | inr new ↦ new ]

  itself-heir : (k : ℕ) → length h ≡ k → IsHeir (h ++ x ∷ []) k (length h)
  itself-heir k at = subst (λ (i : ℕ). IsHeir (h ++ x ∷ []) i (length h)) at (Inside-itself _)

  -- the new structure is the join of two structures, where each common heir is the new structure
  new-join : (a b : ℕ) → IsHeir (h ++ x ∷ []) (length h) a → IsHeir (h ++ x ∷ []) (length h) b → ((k : ℕ) → IsCommonHeir (h ++ x ∷ []) a b k → length h ≡ k) → IsJoin (h ++ x ∷ []) a b (length h)
  new-join a b left right only = record {
    heir = record { declared = new-declared h x; left = left; right = right };
    least = λ k common. itself-heir k (only k common);
  }

  entry-new : IsAllowed h x → (a : ℕ) → a < length h → (p : Bool) → is_subset (mix h a) x ≡ p → IsEntry (h ++ x ∷ []) a (length h) (new_entry (length h) p)
  entry-new allowed a la true is = new-join a (length h) (holds-new h x (length h) a refl la is) (Inside-itself _) (λ k common. only-heir allowed k common.declared common.right)
  entry-new allowed a la false is = λ k common. true≢false (sym (new-holds h x k a (only-heir allowed k common.declared common.right) la common.left) ∙ is)

  entry-itself : IsAllowed h x → IsEntry (h ++ x ∷ []) (length h) (length h) (Some (record { 0 = length h }))
  entry-itself allowed = new-join (length h) (length h) (Inside-itself _) (Inside-itself _) (λ k common. only-heir allowed k common.declared common.right)

  entry-old : IsAllowed h x → (a b : ℕ) → a < length h → b < length h → (e : Option StructId) → IsEntry h a b e → (p q : Bool) → is_subset (mix h a) x ≡ p → is_subset (mix h b) x ≡ q → IsEntry (h ++ x ∷ []) a b (filled e (new_entry (length h) p) (new_entry (length h) q))
  entry-old allowed a b la lb (Some j) old p q is_p is_q = join-kept allowed a b j.0 la lb old
  entry-old allowed a b la lb None old true true is_p is_q =
      new-join a b (holds-new h x (length h) a refl la is_p) (holds-new h x (length h) b refl lb is_q) (λ k common. elim (place-cases h x k common.declared) [ inl before ↦ absurd (old k (common-of_more a b k la lb before common)) | inr new ↦ new ])
  entry-old allowed a b la lb None old true false is_p is_q = λ k common. elim (place-cases h x k common.declared) [
    | inl before ↦ old k (common-of_more a b k la lb before common)
    | inr new ↦ true≢false (sym (new-holds h x k b new lb common.right) ∙ is_q)
  ]
  entry-old allowed a b la lb None old false q is_p is_q = λ k common. elim (place-cases h x k common.declared) [
    | inl before ↦ old k (common-of_more a b k la lb before common)
    | inr new ↦ true≢false (sym (new-holds h x k a new la common.left) ∙ is_p)
  ]

  row-old : IsAllowed h x → (b : ℕ) → b < length h → (row : Entries) → IsNewRow h x row → (old new : Entries) → IsRow h b old → IsFilled row b old new → IsRow (h ++ x ∷ []) b new
  row-old allowed b lb row is old new was change = record {
    long = change.long ∙ was.long;
    entries = λ a le.
        let la : a < length h = omega (arith, le, lb) in
        subst (λ (e : Option StructId). IsEntry (h ++ x ∷ []) a b e) (sym (change.done a (omega (arith, was.long, le))))
        (subst (λ (e : Option StructId). IsEntry (h ++ x ∷ []) a b (filled (entry_at old a) e (entry_at row b))) (sym (is.earlier a la))
        (subst (λ (e : Option StructId). IsEntry (h ++ x ∷ []) a b (filled (entry_at old a) (new_entry (length h) (is_subset (mix h a) x)) e)) (sym (is.earlier b lb))
        (entry-old allowed a b la lb (entry_at old a) (was.entries a le) (is_subset (mix h a) x) (is_subset (mix h b) x) refl refl)));
  }

  row-new : IsAllowed h x → (row : Entries) → IsNewRow h x row → IsRow (h ++ x ∷ []) (length h) row
  row-new allowed row is = record {
    long = is.long;
    entries = λ a le. elim (cases_lt a (length h)) [
      | inl old ↦ subst (λ (e : Option StructId). IsEntry (h ++ x ∷ []) a (length h) e) (sym (is.earlier a old)) (entry-new allowed a old (is_subset (mix h a) x) refl)
      | inr from ↦ at a (omega (arith, le, from))
    ];
  }
    where
      at : (a : ℕ) → length h ≡ a → IsEntry (h ++ x ∷ []) a (length h) (entry_at row a)
      at a e = subst (λ (i : ℕ). IsEntry (h ++ x ∷ []) i (length h) (entry_at row i)) e (subst (λ (o : Option StructId). IsEntry (h ++ x ∷ []) (length h) (length h) o) (sym is.itself) (entry-itself allowed))

  pub table-push : IsAllowed h x → (row : Entries) → IsNewRow h x row → (old new : List Entries) → IsTable h old → IsChanged (IsFilled row) [] old new (length old) → IsTable (h ++ x ∷ []) (new ++ row ∷ [])
  table-push allowed row is old new was change = record {
    long = length_push new row ∙ ap (λ n. n + 1) (change.long ∙ was.long) ∙ sym (length_push h x);
    each = λ b lt. elim (place-cases h x b lt) [
      | inl before ↦ subst (IsRow (h ++ x ∷ []) b) (sym (get_or_append_left new (row ∷ []) [] b (omega (arith, change.long, was.long, before))))
          (row-old allowed b before row is (row_at old b) (row_at new b) (was.each b before) (change.done b (omega (arith, was.long, before))))
      | inr at ↦ subst (IsRow (h ++ x ∷ []) b) (sym (get_or_push new row [] b (change.long ∙ was.long ∙ at))) (subst (λ (i : ℕ). IsRow (h ++ x ∷ []) i row) at (row-new allowed row is))
    ];
  }

module _ (h : List Set) (n : ℕ) where
  mix-take : (s : ℕ) → s < n → mix (take n h) s ≡ mix h s
  mix-take s lt = get_or-take n h s empty lt

  heir-of_take : (a b : ℕ) → a < n → b < n → IsHeir (take n h) a b → IsHeir h a b
  heir-of_take a b la lb = Inside-along _ _ _ _ (mix-take b lb) (mix-take a la)

  heir-in_take : (a b : ℕ) → a < n → b < n → IsHeir h a b → IsHeir (take n h) a b
  heir-in_take a b la lb = Inside-along _ _ _ _ (sym (mix-take b lb)) (sym (mix-take a la))

  below : (k : ℕ) → k < length (take n h) → k < n
  below k lt = omega (arith, length-take n h, lt)

  common-of_take : (a b k : ℕ) → a < n → b < n → IsCommonHeir (take n h) a b k → IsCommonHeir h a b k
  common-of_take a b k la lb common = record {
    declared = omega (arith, length-take n h, common.declared);
    left = heir-of_take k a (below k common.declared) la common.left;
    right = heir-of_take k b (below k common.declared) lb common.right;
  }

  join-take : (a b j : ℕ) → a < n → b < n → j < n → IsJoin h a b j → IsJoin (take n h) a b j
  join-take a b j la lb lj join = record {
    heir = record {
      declared = omega (arith, length-take n h, join.heir.declared, lj);
      left = heir-in_take j a lj la join.heir.left;
      right = heir-in_take j b lj lb join.heir.right;
    };
    least = λ k common. heir-in_take k j (below k common.declared) lj (join.least k (common-of_take a b k la lb common));
  }

  -- a join that is cut was the first common heir
  none-take : AllAllowed h → (a b j : ℕ) → a < n → b < n → n ≤ j → IsJoin h a b j → (k : ℕ) → ¬ (IsCommonHeir (take n h) a b k)
  none-take all a b j la lb le join k common =
      (lawful h all).ordered k j (omega (arith, below k common.declared, le)) join.heir.declared (join.least k (common-of_take a b k la lb common))

  entry-take : AllAllowed h → (a b : ℕ) → a < n → b < n → (e : Option StructId) → IsEntry h a b e → IsEntry (take n h) a b (kept n e)
  entry-take all a b la lb None was = λ k common. was k (common-of_take a b k la lb common)
  entry-take all a b la lb (Some j) was = by (nat_lt j.0 n) refl
    where
      by : (p : Bool) → nat_lt j.0 n ≡ p → IsEntry (take n h) a b (cond p (Some j) None)
      by true is = join-take a b j.0 la lb (grind (arith, nat_tests)) was
      by false is = none-take all a b j.0 la lb (grind (arith, nat_tests)) was

  row-take : AllAllowed h → (b : ℕ) → b < n → (old new : Entries) → IsRow h b old → IsCut n old new → IsRow (take n h) b new
  row-take all b lb old new was change = record {
    long = change.long ∙ was.long;
    entries = λ a le.
        subst (λ (e : Option StructId). IsEntry (take n h) a b e) (sym (change.done a (omega (arith, was.long, le))))
        (entry-take all a b (omega (arith, le, lb)) lb (entry_at old a) (was.entries a le));
  }

  pub table-take : AllAllowed h → (old new : List Entries) → IsTable h old → IsChanged (λ b. IsCut n) [] (take n old) new (length (take n old)) → IsTable (take n h) new
  table-take all old new was change = record {
    long = change.long ∙ length-take n old ∙ ap (min n) was.long ∙ sym (length-take n h);
    each = λ b lt.
        let lb = below b lt in
        let declared : b < length h = omega (arith, length-take n h, lt) in
        row-take all b lb (row_at old b) (row_at new b) (was.each b declared)
        (subst (λ (r : Entries). IsCut n r (row_at new b)) (get_or-take n old b [] lb) (change.done b (omega (arith, length-take n old, was.long, lb, declared))));
  }

pub table-cut : (h h' : List Set) (rows between new : List Entries) (n : ℕ) → h' ≡ take n h → between ≡ take n rows → AllAllowed h → IsTable h rows → IsChanged (λ b. IsCut n) [] between new (length between) → IsTable h' new
table-cut h h' rows between new n is_h is_rows all was change =
    subst (λ (l : List Set). IsTable l new) (sym is_h) (table-take h n all rows new was (subst (λ (l : List Entries). IsChanged (λ b. IsCut n) [] l new (length l)) is_rows change))

pub table-after : (h h' : List Set) (x : Set) (rows between filled new : List Entries) (row : Entries) → h' ≡ h ++ x ∷ [] → between ≡ rows → new ≡ filled ++ row ∷ [] → IsAllowed h x → IsNewRow h x row → IsTable h rows → IsChanged (IsFilled row) [] between filled (length between) → IsTable h' new
table-after h h' x rows between filled new row is_h is_rows is_new allowed is was change =
    subst (λ (l : List Set). IsTable l new) (sym is_h) (subst (IsTable (h ++ x ∷ [])) (sym is_new)
    (table-push h x allowed row is rows filled was (subst (λ (l : List Entries). IsChanged (IsFilled row) [] l filled (length l)) is_rows change)))
