-- The tallies after one more giving, and after one less.
use Rattle.std.proofs.Common.{◌≡◌, ℕ, ◌+◌, ◌<◌, ◌≤◌, List, [], ◌∷◌, ◌++◌, length, take, get_or, min, refl, sym, ap, ◌∙◌, subst, ◌⊎◌, inl, inr, arith}
use Rattle.std.proofs.lemmas.Bool.{cases_lt}
use Rattle.std.proofs.lemmas.List.{length_push, length-take, take-take, take-append-le, get_or-take, get_or_append_left, get_or_push, take_all}
use Rattle.hb_givings.specs.declared.records.Tally.{Tally}
use Rattle.hb_givings.specs.Givings.{Given, ungiven, givings_at}
use Rattle.hb_givings.specs.Lookups.{summary, Sources, AreSources}
use Rattle.hb_givings.specs.Kept.{untallied, IsTally, AreTallied}

place-cases : {X : Type 0} (xs : List X) (x : X) (i : ℕ) → i < length (xs ++ x ∷ []) → (i < length xs) ⊎ (length xs ≡ i)
place-cases xs x i lt = elim (cases_lt i (length xs)) [ inl old ↦ inl old | inr new ↦ inr (omega (arith, length_push xs x, lt, new)) ]

-- what is kept of a list is no longer than it
kept-le : {X : Type 0} (xs ys : List X) → take (length xs) ys ≡ xs → length xs ≤ length ys
kept-le xs ys kept = omega (arith, length-take (length xs) ys, ap length kept)

-- all of a list before its last item
pub take-before : {X : Type 0} (xs : List X) (x : X) (i : ℕ) → length xs ≡ i → take i (xs ++ x ∷ []) ≡ xs
take-before xs x i at = take-append-le i xs (x ∷ []) (omega (arith, at)) ∙ take_all i xs (omega (arith, at))

module _ (gs : List Given) (g : Given) (es es' : Sources) (ts : List Tally) (t : Tally) (kept : take (length es) es' ≡ es) (sourced : AreSources gs es) (tallied : AreTallied gs es ts) (before : t.before ≡ summary (givings_at gs g.carrier)) (sources : t.sources ≡ length es) where
  tally-old : (i : ℕ) → i < length gs → IsTally (gs ++ g ∷ []) es' (ts ++ t ∷ []) i
  tally-old i lt =
      let old = tallied.tally i lt in
      let e = get_or_append_left ts (t ∷ []) untallied i (omega (arith, tallied.each, lt)) in
      let f = take-append-le i gs (g ∷ []) (omega (arith, lt)) in
      let k = get_or_append_left gs (g ∷ []) ungiven i lt in
      let c = (get_or ts i untallied).sources in
      let same : take c es' ≡ take c es = sym (take-take c (length es) es' old.within) ∙ ap (take c) kept in
      record {
        before_is = rw (e, f, k) old.before_is;
        within = rw e (omega (arith, old.within, kept-le es es' kept));
        later = λ j after within. elim (place-cases gs g j within) [
          | inl lj ↦ rw (e, get_or_append_left ts (t ∷ []) untallied j (omega (arith, tallied.each, lj))) (old.later j after lj)
          | inr at ↦ rw (e, get_or_push ts t untallied j (tallied.each ∙ at)) (omega (arith, old.within, sources))
        ];
        sources_are = rw (e, f) (subst (AreSources (take i gs)) (sym same) old.sources_are);
      }

  tally-new : (i : ℕ) → length gs ≡ i → IsTally (gs ++ g ∷ []) es' (ts ++ t ∷ []) i
  tally-new i at =
      let e = get_or_push ts t untallied i (tallied.each ∙ at) in
      let f = take-before gs g i at in
      let k = get_or_push gs g ungiven i at in
      record {
        before_is = rw (e, f, k) before;
        within = rw e (omega (arith, sources, kept-le es es' kept));
        later = λ j after within. absurd (omega (arith, after, within, length_push gs g, at));
        sources_are = rw (e, f) (subst (AreSources gs) (sym (ap (λ n. take n es') sources ∙ kept)) sourced);
      }

  pub tallied-push : AreTallied (gs ++ g ∷ []) es' (ts ++ t ∷ [])
  tallied-push = record {
    each = length_push ts t ∙ ap (λ n. n + 1) tallied.each ∙ sym (length_push gs g);
    tally = λ i lt. elim (place-cases gs g i lt) [ inl old ↦ tally-old i old | inr new ↦ tally-new i new ];
  }

tallied-take : (gs : List Given) (es : Sources) (ts : List Tally) (n : ℕ) → n < length gs → AreTallied gs es ts → AreTallied (take n gs) (take (get_or ts n untallied).sources es) (take n ts)
tallied-take gs es ts n lt tallied = record {
  each = length-take n ts ∙ ap (min n) tallied.each ∙ sym (length-take n gs);
  tally = λ i within. by i (omega (arith, length-take n gs, within));
}
  where
    by : (i : ℕ) → i < n → IsTally (take n gs) (take (get_or ts n untallied).sources es) (take n ts) i
    by i small =
        let old = tallied.tally i (omega (arith, small, lt)) in
        let last = tallied.tally n lt in
        let c = (get_or ts n untallied).sources in
        let d = (get_or ts i untallied).sources in
        let e = get_or-take n ts i untallied small in
        let f = take-take i n gs (omega (arith, small)) in
        let k = get_or-take n gs i ungiven small in
        record {
          before_is = rw (e, f, k) old.before_is;
          within = rw e (omega (arith, length-take c es, old.later n small lt, last.within));
          later = λ j after within. rw (e, get_or-take n ts j untallied (omega (arith, length-take n gs, within))) (old.later j after (omega (arith, length-take n gs, within)));
          sources_are = rw (e, f) (subst (AreSources (take i gs)) (sym (take-take d c es (old.later n small lt))) old.sources_are);
        }

-- what the tally of the last giving says
module _ (gs : List Given) (g : Given) (es : Sources) (ts : List Tally) (t : Tally) (tallied : AreTallied (gs ++ g ∷ []) es (ts ++ t ∷ [])) where
  lengths : length ts ≡ length gs
  lengths = omega (arith, tallied.each, length_push ts t, length_push gs g)

  last-is : get_or (ts ++ t ∷ []) (length gs) untallied ≡ t
  last-is = get_or_push ts t untallied (length gs) lengths

  last : IsTally (gs ++ g ∷ []) es (ts ++ t ∷ []) (length gs)
  last = tallied.tally (length gs) (omega (arith, length_push gs g))

  pub last-before : t.before ≡ summary (givings_at gs g.carrier)
  last-before =
      ap (λ (u : Tally). u.before) (sym last-is) ∙ last.before_is
      ∙ (λ i. summary (givings_at (take-before gs g (length gs) refl i) (get_or_push gs g ungiven (length gs) refl i).carrier))

  pub last-sources : AreSources gs (take t.sources es)
  last-sources = subst (λ (l : List Given). AreSources l (take t.sources es)) (take-before gs g (length gs) refl) (subst (λ (u : Tally). AreSources (take (length gs) (gs ++ g ∷ [])) (take u.sources es)) last-is last.sources_are)

  pub tallied-pop : AreTallied gs (take t.sources es) ts
  tallied-pop =
      subst (λ (l : List Tally). AreTallied gs (take t.sources es) l) (take-before ts t (length gs) lengths)
      (subst (λ (l : List Given). AreTallied l (take t.sources es) (take (length gs) (ts ++ t ∷ []))) (take-before gs g (length gs) refl)
      (subst (λ (u : Tally). AreTallied (take (length gs) (gs ++ g ∷ [])) (take u.sources es) (take (length gs) (ts ++ t ∷ []))) last-is (tallied-take (gs ++ g ∷ []) es (ts ++ t ∷ []) (length gs) (omega (arith, length_push gs g)) tallied)))

-- the same, where the lists are told by equations
pub split-tallied : (was gs : List Given) (g : Given) (es : Sources) (had ts : List Tally) (t : Tally) → was ≡ gs ++ g ∷ [] → had ≡ ts ++ t ∷ [] → AreTallied was es had → AreTallied (gs ++ g ∷ []) es (ts ++ t ∷ [])
split-tallied was gs g es had ts t is_gs is_ts tallied = subst (λ (l : List Tally). AreTallied (gs ++ g ∷ []) es l) is_ts (subst (λ (l : List Given). AreTallied l es had) is_gs tallied)

pub joined-tallied : (new gs : List Given) (g : Given) (es : Sources) (made ts : List Tally) (t : Tally) → new ≡ gs ++ g ∷ [] → made ≡ ts ++ t ∷ [] → AreTallied (gs ++ g ∷ []) es (ts ++ t ∷ []) → AreTallied new es made
joined-tallied new gs g es made ts t is_gs is_ts tallied = subst (λ (l : List Tally). AreTallied new es l) (sym is_ts) (subst (λ (l : List Given). AreTallied l es (ts ++ t ∷ [])) (sym is_gs) tallied)
