-- The table of names, as names are entered and taken out.
use Rattle.std.proofs.Common.{◌≡◌, ◌≢◌, ℕ, zero, suc, true, false, ◌+◌, ◌<◌, ◌≤◌, ◌⊎◌, inl, inr, List, [], ◌∷◌, ◌++◌, length, take, get_or, Option, Some, None, slice_get, refl, ap, sym, subst, ◌∙◌, arith, add-one}
use Rattle.std.specs.Prelude.{slice_index}
use Rattle.std.proofs.Math.ListN.{set, length-set}
use Rattle.std.proofs.lemmas.Option.{get_or_from_slice_get, slice_get-get_or}
use Rattle.std.proofs.lemmas.Bool.{cases_order}
use Rattle.std.proofs.lemmas.List.{get_or-set_same, get_or-set_other}
use Rattle.hb_calculus.specs.Declarations.{Decl, names_of, names, IsIn, Distinct}
use Rattle.hb_env.specs.declared.named.Named.{Named}
use Rattle.hb_env.specs.Table.{IsEntry, IsTable, role, entered, removed}
use Rattle.hb_env.proofs.NameLemmas.{in_left, in_neither, in_at, not_in_more, names_push, distinct_apart}
use Rattle.hb_env.proofs.RoleLemmas.{name_is_in, name_kept, name_back, role_is, get_last}
use Rattle.std.specs.Prelude.{IsNone, ◌↔◌}
use Rattle.std.specs.Option.{is_some}
use Rattle.std.proofs.lemmas.List.{get_or_read}
use Rattle.std.proofs.Math.Seq.{take-length}

-- one write more
pub entered_more : (at : ℕ) (ns : List ℕ) (i n : ℕ) (table now : List (Option Named)) → now ≡ entered at ns i table → slice_get ns i ≡ Some n → set now n (Some (role at i)) ≡ entered at ns (i + 1) table
entered_more at ns i n table now e h =
    rw (add-one i, e) (ap (λ k. set (entered at ns i table) k (Some (role at i))) (sym (get_or_from_slice_get ns i n 0 h)))

pub length_entered : (at : ℕ) (ns : List ℕ) (i : ℕ) (table : List (Option Named)) → length (entered at ns i table) ≡ length table
length_entered at ns zero table = refl
length_entered at ns (suc i) table = length-set (entered at ns i table) (slice_index ns i) (Some (role at i)) ∙ length_entered at ns i table

pub length_removed : (ns : List ℕ) (i : ℕ) (table : List (Option Named)) → length (removed ns i table) ≡ length table
length_removed ns zero table = refl
length_removed ns (suc i) table = length-set (removed ns i table) (slice_index ns i) None ∙ length_removed ns i table

-- a name is among the first, or its place in the table is as before
abbrev pub Entered : (at : ℕ) (ns : List ℕ) (k : ℕ) (table : List (Option Named)) (n : ℕ) → Type 0
Entered at ns k table n =
    (¬ IsIn n (take k ns) × (get_or (entered at ns k table) n None ≡ get_or table n None))
    ⊎ ((i : ℕ) × (slice_get ns i ≡ Some n) × (get_or (entered at ns k table) n None ≡ Some (role at i)))

entered_step : (at : ℕ) (ns : List ℕ) (k : ℕ) (table : List (Option Named)) (n m : ℕ) → slice_get ns k ≡ Some m → n < length table → Entered at ns k table n → ((m ≡ n) ⊎ (m ≢ n)) → Entered at ns (suc k) table n
entered_step at ns k table n m e h old (inl q) =
    let f : slice_index ns k ≡ n = get_or_from_slice_get ns k m 0 e ∙ q in
    let l : n < length (entered at ns k table) = omega (arith, length_entered at ns k table) in
    inr (k, e ∙ ap Some q, ap (λ j. get_or (set (entered at ns k table) j (Some (role at k))) n None) f ∙ get_or-set_same (entered at ns k table) n (Some (role at k)) None l)
entered_step at ns k table n m e h (inl old) (inr q) =
    let f : slice_index ns k ≡ m = get_or_from_slice_get ns k m 0 e in
    let g : ¬ IsIn n (take (k + 1) ns) = not_in_more ns k m n e q old.0 in
    inl (subst (λ (j : ℕ). ¬ IsIn n (take j ns)) (add-one k) g, ap (λ j. get_or (set (entered at ns k table) j (Some (role at k))) n None) f ∙ get_or-set_other (entered at ns k table) m n (Some (role at k)) None (λ p. q (sym p)) ∙ old.1)
entered_step at ns k table n m e h (inr old) (inr q) =
    let f : slice_index ns k ≡ m = get_or_from_slice_get ns k m 0 e in
    inr (old.0, old.1, ap (λ j. get_or (set (entered at ns k table) j (Some (role at k))) n None) f ∙ get_or-set_other (entered at ns k table) m n (Some (role at k)) None (λ p. q (sym p)) ∙ old.2)

equal_or_not : (m n : ℕ) → (m ≡ n) ⊎ (m ≢ n)
equal_or_not m n = elim (cases_order m n) [ inl e ↦ inl e | inr h ↦ inr (λ p. elim h [ inl a ↦ omega arith | inr a ↦ omega arith ]) ]

pub entered_at : (at : ℕ) (ns : List ℕ) (k : ℕ) (table : List (Option Named)) (n : ℕ) → k ≤ length ns → n < length table → Entered at ns k table n
entered_at at ns zero table n h l = inl ((λ p. p), refl)
entered_at at ns (suc k) table n h l =
    let m = slice_index ns k in
    let e : slice_get ns k ≡ Some m = slice_get-get_or ns k 0 (omega arith) in
    entered_step at ns k table n m e l (entered_at at ns k table n (omega arith) l) (equal_or_not m n)

-- the same where names are taken out
abbrev pub Removed : (ns : List ℕ) (k : ℕ) (table : List (Option Named)) (n : ℕ) → Type 0
Removed ns k table n =
    (¬ IsIn n (take k ns) × (get_or (removed ns k table) n None ≡ get_or table n None))
    ⊎ (IsIn n ns × (get_or (removed ns k table) n None ≡ None))

removed_step : (ns : List ℕ) (k : ℕ) (table : List (Option Named)) (n m : ℕ) → slice_get ns k ≡ Some m → n < length table → Removed ns k table n → ((m ≡ n) ⊎ (m ≢ n)) → Removed ns (suc k) table n
removed_step ns k table n m e h old (inl q) =
    let f : slice_index ns k ≡ n = get_or_from_slice_get ns k m 0 e ∙ q in
    let l : n < length (removed ns k table) = omega (arith, length_removed ns k table) in
    inr (in_at ns k n (e ∙ ap Some q), ap (λ j. get_or (set (removed ns k table) j None) n None) f ∙ get_or-set_same (removed ns k table) n None None l)
removed_step ns k table n m e h (inl old) (inr q) =
    let f : slice_index ns k ≡ m = get_or_from_slice_get ns k m 0 e in
    let g : ¬ IsIn n (take (k + 1) ns) = not_in_more ns k m n e q old.0 in
    inl (subst (λ (j : ℕ). ¬ IsIn n (take j ns)) (add-one k) g, ap (λ j. get_or (set (removed ns k table) j None) n None) f ∙ get_or-set_other (removed ns k table) m n None None (λ p. q (sym p)) ∙ old.1)
removed_step ns k table n m e h (inr old) (inr q) =
    let f : slice_index ns k ≡ m = get_or_from_slice_get ns k m 0 e in
    inr (old.0, ap (λ j. get_or (set (removed ns k table) j None) n None) f ∙ get_or-set_other (removed ns k table) m n None None (λ p. q (sym p)) ∙ old.1)

pub removed_at : (ns : List ℕ) (k : ℕ) (table : List (Option Named)) (n : ℕ) → k ≤ length ns → n < length table → Removed ns k table n
removed_at ns zero table n h l = inl ((λ p. p), refl)
removed_at ns (suc k) table n h l =
    let m = slice_index ns k in
    let e : slice_get ns k ≡ Some m = slice_get-get_or ns k 0 (omega arith) in
    removed_step ns k table n m e l (removed_at ns k table n (omega arith) l) (equal_or_not m n)

-- what the table says of a name
held_entry : (E : List Decl) (n : ℕ) (o : Option Named) → is_some o ≡ true → IsEntry E n o → IsIn n (names E)
held_entry E n (Some x) e h = name_is_in E x n h
held_entry E n None e h = absurd (cc)

pub held : (E : List Decl) (table : List (Option Named)) (n : ℕ) → n < 65536 → IsTable E table → is_some (get_or table n None) ≡ true → IsIn n (names E)
held E table n l t e = held_entry E n (get_or table n None) e (t.right n l)

free_entry : (E : List Decl) (n : ℕ) (o : Option Named) → is_some o ≡ false → IsEntry E n o → ¬ IsIn n (names E)
free_entry E n (Some x) e h = absurd (cc)
free_entry E n None e h = h

pub free : (E : List Decl) (table : List (Option Named)) (n : ℕ) → n < 65536 → IsTable E table → is_some (get_or table n None) ≡ false → ¬ IsIn n (names E)
free E table n l t e = free_entry E n (get_or table n None) e (t.right n l)

-- the table of one declaration more
entry_more : (E : List Decl) (d : Decl) (n : ℕ) (o : Option Named) → IsEntry E n o → ¬ IsIn n (names_of d) → IsEntry (E ++ d ∷ []) n o
entry_more E d n (Some x) h p = name_kept E d x n h
entry_more E d n None h p = rw (names_push E d) (in_neither n (names E) (names_of d) h p)

entered_right : (E : List Decl) (d : Decl) (table : List (Option Named)) (n : ℕ) → IsEntry E n (get_or table n None) → Entered (length E) (names_of d) (length (names_of d)) table n → IsEntry (E ++ d ∷ []) n (get_or (entered (length E) (names_of d) (length (names_of d)) table) n None)
entered_right E d table n h (inl p) =
    let q : ¬ IsIn n (names_of d) = subst (λ (l : List ℕ). ¬ IsIn n l) (take-length (names_of d)) p.0 in
    rw p.1 (entry_more E d n (get_or table n None) h q)
entered_right E d table n h (inr p) = rw p.2 (role_is (E ++ d ∷ []) (length E) p.0 d n (get_last E d) p.1)

pub table_more : (E : List Decl) (d : Decl) (table : List (Option Named)) → IsTable E table → IsTable (E ++ d ∷ []) (entered (length E) (names_of d) (length (names_of d)) table)
table_more E d table t =
    let ns = names_of d in
    record {
      full = length_entered (length E) ns (length ns) table ∙ t.full;
      right = λ n l. entered_right E d table n (t.right n l) (entered_at (length E) ns (length ns) table n (omega arith) (omega (arith, t.full)));
    }

-- the table of one declaration less
entry_less : (E : List Decl) (d : Decl) (n : ℕ) (o : Option Named) → IsEntry (E ++ d ∷ []) n o → ¬ IsIn n (names_of d) → IsEntry E n o
entry_less E d n (Some x) h p = name_back E d x n h p
entry_less E d n None h p = λ q. h (rw (names_push E d) (in_left n (names E) (names_of d) q))

removed_right : (E : List Decl) (d : Decl) (table : List (Option Named)) (n : ℕ) → Distinct (names (E ++ d ∷ [])) → IsEntry (E ++ d ∷ []) n (get_or table n None) → Removed (names_of d) (length (names_of d)) table n → IsEntry E n (get_or (removed (names_of d) (length (names_of d)) table) n None)
removed_right E d table n u h (inl p) =
    let q : ¬ IsIn n (names_of d) = subst (λ (l : List ℕ). ¬ IsIn n l) (take-length (names_of d)) p.0 in
    rw p.1 (entry_less E d n (get_or table n None) h q)
removed_right E d table n u h (inr p) = rw p.1 (distinct_apart (names E) (names_of d) n (subst (λ (l : List ℕ). Distinct l) (names_push E d) u) p.0)

pub table_less : (E : List Decl) (d : Decl) (table : List (Option Named)) → Distinct (names (E ++ d ∷ [])) → IsTable (E ++ d ∷ []) table → IsTable E (removed (names_of d) (length (names_of d)) table)
table_less E d table u t =
    let ns = names_of d in
    record {
      full = length_removed ns (length ns) table ∙ t.full;
      right = λ n l. removed_right E d table n u (t.right n l) (removed_at ns (length ns) table n (omega arith) (omega (arith, t.full)));
    }

-- nothing in the table is no such name
pub entry_tells : (E : List Decl) (n : ℕ) (o : Option Named) → IsEntry E n o → IsNone o ↔ ¬ IsIn n (names E)
entry_tells E n (Some x) h = ((λ p. absurd (cc)), (λ q. absurd (q (name_is_in E x n h))))
entry_tells E n None h = ((λ _. h), (λ _. refl))

pub entry_read : (E : List Decl) (table : List (Option Named)) (n i : ℕ) (o : Option Named) → IsTable E table → i ≡ n → n < 65536 → o ≡ get_or table i o → IsEntry E n o
entry_read E table n i o t e l h =
    let r : o ≡ get_or table n None = get_or_read table i o (omega (arith, t.full)) h None ∙ ap (λ k. get_or table k None) e in
    rw r (t.right n l)
