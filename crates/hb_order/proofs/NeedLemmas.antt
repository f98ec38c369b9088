-- Needs: a finite list of structures with a common heir has a least one, by joins.
use Rattle.std.proofs.Common.{◌≡◌, ℕ, ◌<◌, Bool, true, false, true≢false, List, [], ◌∷◌, ◌++◌, length, Option, None, Some, ◌||◌, refl, sym, ap, ◌∙◌, subst, ◌⊎◌, inl, inr, arith, nat_eq}
use Rattle.std.proofs.lemmas.Bool.Decides.{nat_tests}
use Rattle.std.specs.List.{list_any}
use Rattle.std.specs.Ordering.{nat_cmp, eq_by_cmp}
use Rattle.std.specs.Cmp.{unsigned_tied}
use Rattle.std.specs.FinSet.{contains-items, items}
use Rattle.hb_sets.specs.Set.{Set, In, Inside}
use Rattle.hb_sets.proofs.SetLemmas.{Inside-itself, Inside-through, Inside-member}
use Rattle.hb_order.specs.Heirs.{mix, IsHeir, IsJoin}
use Rattle.hb_order.specs.Allowed.{IsAllowed}
use Rattle.hb_order.specs.Givings.{Giving, given, condition, binder, Asks}
use Rattle.hb_order.specs.Needs.{HoldsAsked, IsNeeded, IsNeed, AskedDeclared, NeedsLess, HeirsNeedLess, LaterStructuresKeepNeeds, LaterGivingsKeepNeeds}
use Rattle.hb_order.proofs.HeirLemmas.{heir-of_more, heir-in_more, new-holds, holds-new}
use Rattle.hb_order.proofs.AllowedLemmas.{IsLawful, lawful, holds-join, place-cases, old-declared}
use Rattle.hb_order.proofs.GivingLemmas.{condition-kept}

-- t stands in the list
abbrev pub Has : List ℕ → ℕ → Type 0
Has [] t = ⊥
Has (x ∷ xs) t = (t ≡ x) ⊎ Has xs t

same_number : (q x : ℕ) → nat_eq q x ≡ true → q ≡ x
same_number q x is = grind (arith, nat_tests)

number_same : (q x : ℕ) → q ≡ x → nat_eq q x ≡ true
number_same q x is = grind (arith, nat_tests)

has-any : (ms : List ℕ) (q : ℕ) → Has ms q → list_any (eq_by_cmp nat_cmp q) ms ≡ true
has-any [] q h = absurd h
has-any (x ∷ ms) q (inl at) = ap (λ b. b || list_any (eq_by_cmp nat_cmp q) ms) (unsigned_tied q x ∙ number_same q x at)
has-any (x ∷ ms) q (inr later) = ap (λ b. eq_by_cmp nat_cmp q x || b) (has-any ms q later) ∙ or-true _
  where
    or-true : (a : Bool) → (a || true) ≡ true
    or-true true = refl
    or-true false = refl

any-has : (ms : List ℕ) (q : ℕ) → list_any (eq_by_cmp nat_cmp q) ms ≡ true → Has ms q
any-has [] q is = absurd (true≢false (sym is))
any-has (x ∷ ms) q is = split (eq_by_cmp nat_cmp q x) (list_any (eq_by_cmp nat_cmp q) ms) (λ e. same_number q x (sym (unsigned_tied q x) ∙ e)) (any-has ms q) is
  where
    split : (a b : Bool) → (a ≡ true → q ≡ x) → (b ≡ true → Has ms q) → (a || b) ≡ true → (q ≡ x) ⊎ Has ms q
    split true b here later is_or = inl (here refl)
    split false b here later is_or = inr (later is_or)

-- the structures that were asked at place i for mixins of a list
add : Option ℕ → List ℕ → List ℕ
add None ts = ts
add (Some t) ts = t ∷ ts

asked : List Giving → ℕ → List ℕ → List ℕ
asked gs i [] = []
asked gs i (m ∷ ms) = add (binder (condition gs m) i) (asked gs i ms)

asked-has : (gs : List Giving) (i : ℕ) (ms : List ℕ) (t : ℕ) → Has (asked gs i ms) t → (m : ℕ) × Has ms m × Asks gs m i t
unfolding asked add
asked-has gs i [] t h = absurd h
asked-has gs i (m ∷ ms) t h = found (binder (condition gs m) i) refl h (asked-has gs i ms t)
  where
    Found : List ℕ → Type 0
    Found ns = (n : ℕ) × Has ns n × Asks gs n i t

    widened : (n : ℕ) × Has ms n × Asks gs n i t → (n : ℕ) × Has (m ∷ ms) n × Asks gs n i t
    widened w = (w.0, inr w.1, w.2)

    found : (o : Option ℕ) → binder (condition gs m) i ≡ o → Has (add o (asked gs i ms)) t → (Has (asked gs i ms) t → (n : ℕ) × Has ms n × Asks gs n i t) → (n : ℕ) × Has (m ∷ ms) n × Asks gs n i t
    found None is h rest = widened (rest h)
    found (Some u) is (inl at) rest = (m, inl refl, is ∙ ap Some (sym at))
    found (Some u) is (inr later) rest = widened (rest later)

has-asked : (gs : List Giving) (i : ℕ) (ms : List ℕ) (m t : ℕ) → Has ms m → Asks gs m i t → Has (asked gs i ms) t
unfolding asked add
has-asked gs i [] m t h asks = absurd h
has-asked gs i (n ∷ ms) m t (inl at) asks = subst (λ (o : Option ℕ). Has (add o (asked gs i ms)) t) (sym (ap (λ k. binder (condition gs k) i) (sym at) ∙ asks)) (inl refl)
has-asked gs i (n ∷ ms) m t (inr later) asks = widened (binder (condition gs n) i) (has-asked gs i ms m t later asks)
  where
    widened : (o : Option ℕ) → Has (asked gs i ms) t → Has (add o (asked gs i ms)) t
    widened None h = h
    widened (Some u) h = inr h

has-member : (x : Set) (m : ℕ) → In x m → Has (items x) m
has-member x m member = any-has (items x) m (sym (contains-items x m) ∙ member)

member-has : (x : Set) (m : ℕ) → Has (items x) m → In x m
member-has x m h = contains-items x m ∙ has-any (items x) m h

-- s is an heir of each of the list
abbrev pub IsHeirOfAll : List Set → List ℕ → ℕ → Type 0
IsHeirOfAll h ts s = (t : ℕ) → Has ts t → IsHeir h s t

abbrev AllDeclared : List Set → List ℕ → Type 0
AllDeclared h ts = (t : ℕ) → Has ts t → t < length h

-- the least heir of all of a list, inside each allowed set that holds them all
pub record IsLeastOf (h : List Set) (ts : List ℕ) (j : ℕ) : Type 0 where
  pub declared : j < length h
  pub holds : IsHeirOfAll h ts j
  pub least : (k : ℕ) → k < length h → IsHeirOfAll h ts k → IsHeir h k j
  pub inside : (y : Set) → IsAllowed h y → ((t : ℕ) → Has ts t → Inside (mix h t) y) → Inside (mix h j) y

module _ (h : List Set) (law : IsLawful h) where
  least-heir : (t : ℕ) (ts : List ℕ) → AllDeclared h (t ∷ ts) → (k : ℕ) → k < length h → IsHeirOfAll h (t ∷ ts) k → (j : ℕ) × IsLeastOf h (t ∷ ts) j
  least-heir t [] declared k lk heir = (
    t,
    record {
      declared = declared t (inl refl);
      holds = λ u at. elim at [ inl e ↦ subst (λ (n : ℕ). IsHeir h t n) (sym e) (Inside-itself (mix h t)) | inr none ↦ absurd none ];
      least = λ i li each. each t (inl refl);
      inside = λ y allowed each. each t (inl refl);
    },
  )
  least-heir t (u ∷ us) declared k lk heir =
      let rest = least-heir u us (λ v has. declared v (inr has)) k lk (λ v has. heir v (inr has)) in
      joined rest.0 rest.1 (law.joined t rest.0 k (declared t (inl refl)) rest.1.declared (record { declared = lk; left = heir t (inl refl); right = rest.1.least k lk (λ v has. heir v (inr has)) }))
    where
      joined : (i : ℕ) → IsLeastOf h (u ∷ us) i → (j : ℕ) × IsJoin h t i j → (j : ℕ) × IsLeastOf h (t ∷ u ∷ us) j
      joined i first (j, join) = (
        j,
        record {
          declared = join.heir.declared;
          holds = λ v has. elim has [
            | inl e ↦ subst (λ (n : ℕ). IsHeir h j n) (sym e) join.heir.left
            | inr later ↦ Inside-through (mix h v) (mix h i) (mix h j) (first.holds v later) join.heir.right
          ];
          least = λ n ln each. join.least n (record { declared = ln; left = each t (inl refl); right = first.least n ln (λ v has. each v (inr has)) });
          inside = λ y allowed each. holds-join h y allowed t i j (declared t (inl refl)) first.declared join (each t (inl refl)) (first.inside y allowed (λ v has. each v (inr has)));
        },
      )

  holds-all : (gs : List Giving) (x : Set) (i s : ℕ) → HoldsAsked h gs x i s → IsHeirOfAll h (asked gs i (items x)) s
  holds-all gs x i s holds t has =
      let found = asked-has gs i (items x) t has in
      holds.of_each found.0 t (member-has x found.0 found.1) found.2

  all-holds : (gs : List Giving) (x : Set) (i s : ℕ) → s < length h → IsHeirOfAll h (asked gs i (items x)) s → HoldsAsked h gs x i s
  all-holds gs x i s declared heir = record {
    declared = declared;
    of_each = λ m t member asks. heir t (has-asked gs i (items x) m t (has-member x m member) asks);
  }

  -- where a structure holds all that was asked, there is a need
  pub need-exists : (gs : List Giving) (x : Set) (i s : ℕ) → AskedDeclared h gs → HoldsAsked h gs x i s → (o : Option ℕ) × IsNeed h gs x i o
  need-exists gs x i s declared holds = by_list (asked gs i (items x)) refl
    where
      found : (t : ℕ) (ts : List ℕ) → asked gs i (items x) ≡ t ∷ ts → (m : ℕ) × Has (items x) m × Asks gs m i t
      found t ts is = asked-has gs i (items x) t (subst (λ (us : List ℕ). Has us t) (sym is) (inl refl))

      needed : (t : ℕ) (ts : List ℕ) → asked gs i (items x) ≡ t ∷ ts → (j : ℕ) × IsLeastOf h (asked gs i (items x)) j → (o : Option ℕ) × IsNeed h gs x i o
      needed t ts is (j, first) =
          let w = found t ts is in (
            Some j,
            record {
              asked = (w.0, t, member-has x w.0 w.1, w.2);
              holds = all-holds gs x i j first.declared first.holds;
              least = λ k other. first.least k other.declared (holds-all gs x i k other);
            },
          )

      by_list : (ts : List ℕ) → asked gs i (items x) ≡ ts → (o : Option ℕ) × IsNeed h gs x i o
      by_list [] is = (None, λ m t member asks. subst (λ (us : List ℕ). Has us t) is (has-asked gs i (items x) m t (has-member x m member) asks))
      by_list (t ∷ ts) is =
          needed t ts is (subst (λ (us : List ℕ). (j : ℕ) × IsLeastOf h us j) (sym is)
          (least-heir t ts (λ u has. all_declared u (subst (λ (us : List ℕ). Has us u) (sym is) has)) s holds.declared (λ u has. holds-all gs x i s holds u (subst (λ (us : List ℕ). Has us u) (sym is) has))))
        where
          all_declared : (u : ℕ) → Has (asked gs i (items x)) u → u < length h
          all_declared u has = let w = asked-has gs i (items x) u has in declared w.0 i u w.2

  -- the need is inside each allowed set that holds all that was asked
  pub need-inside : (gs : List Giving) (x : Set) (i s : ℕ) → AskedDeclared h gs → IsNeeded h gs x i s → (y : Set) → IsAllowed h y → ((m t : ℕ) → In x m → Asks gs m i t → Inside (mix h t) y) → Inside (mix h s) y
  need-inside gs x i s declared need y allowed each = by_list (asked gs i (items x)) refl
    where
      least_of : (ts : List ℕ) → asked gs i (items x) ≡ ts → (j : ℕ) × IsLeastOf h ts j → Inside (mix h s) y
      least_of ts is (j, first) =
          Inside-through (mix h s) (mix h j) y
          (need.least j (all-holds gs x i j first.declared (subst (λ (us : List ℕ). IsHeirOfAll h us j) (sym is) first.holds)))
          (first.inside y allowed (λ t has. let w = asked-has gs i (items x) t (subst (λ (us : List ℕ). Has us t) (sym is) has) in each w.0 t (member-has x w.0 w.1) w.2))

      by_list : (ts : List ℕ) → asked gs i (items x) ≡ ts → Inside (mix h s) y
      by_list [] is = absurd (subst (λ (us : List ℕ). Has us need.asked.1) is (has-asked gs i (items x) need.asked.0 need.asked.1 (has-member x need.asked.0 need.asked.2) need.asked.3))
      by_list (t ∷ ts) is =
          least_of (t ∷ ts) is (least-heir t ts (λ u has. all_declared u (subst (λ (us : List ℕ). Has us u) (sym is) has)) s need.holds.declared (λ u has. holds-all gs x i s need.holds u (subst (λ (us : List ℕ). Has us u) (sym is) has)))
        where
          all_declared : (u : ℕ) → Has (asked gs i (items x)) u → u < length h
          all_declared u has = let w = asked-has gs i (items x) u has in declared w.0 i u w.2

-- what holds all that was asked for a set holds all that was asked for a smaller one
holds-fewer : (h : List Set) (gs : List Giving) (x y : Set) (i s : ℕ) → Inside y x → HoldsAsked h gs x i s → HoldsAsked h gs y i s
holds-fewer h gs x y i s inside holds = record { declared = holds.declared; of_each = λ m t member asks. holds.of_each m t (Inside-member y x inside m member) asks }

pub heirs_less : HeirsNeedLess
heirs_less h gs all declared s t heir takes = (
  record {
    gives = Inside-through (mix h t) (mix h s) (given gs) heir takes.gives;
    needs = λ i lt. fewer i (takes.needs i lt);
  },
  less,
)
  where
    fewer : (i : ℕ) → (o : Option ℕ) × IsNeed h gs (mix h s) i o → (o : Option ℕ) × IsNeed h gs (mix h t) i o
    fewer i (None, need) = (None, λ m u member asks. need m u (Inside-member (mix h t) (mix h s) heir m member) asks)
    fewer i (Some k, need) = need-exists h (lawful h all) gs (mix h t) i k declared (holds-fewer h gs (mix h s) (mix h t) i k heir need.holds)

    less : (i : ℕ) (o p : Option ℕ) → IsNeed h gs (mix h s) i o → IsNeed h gs (mix h t) i p → NeedsLess h o p
    less i None None need other = refl
    less i None (Some b) need other = absurd (need other.asked.0 other.asked.1 (Inside-member (mix h t) (mix h s) heir other.asked.0 other.asked.2) other.asked.3)
    less i (Some a) None need other = tt
    less i (Some a) (Some b) need other = other.least a (holds-fewer h gs (mix h s) (mix h t) i a heir need.holds)

pub structures_keep : LaterStructuresKeepNeeds
structures_keep h gs all declared y allowed x i None need = need
structures_keep h gs all declared y allowed x i (Some s) need = record {
  asked = need.asked;
  holds = record {
    declared = old-declared h y s need.holds.declared;
    of_each = λ m t member asks. heir-in_more h y s t need.holds.declared (declared m i t asks) (need.holds.of_each m t member asks);
  };
  least = λ k other. elim (place-cases h y k other.declared) [
    | inl old ↦ heir-in_more h y k s old need.holds.declared
        (need.least k (record { declared = old; of_each = λ m t member asks. heir-of_more h y k t old (declared m i t asks) (other.of_each m t member asks) }))
    | inr new ↦ holds-new h y k s new need.holds.declared
        (need-inside h (lawful h all) gs x i s declared need y allowed (λ m t member asks. new-holds h y k t new (declared m i t asks) (other.of_each m t member asks)))
  ];
}

-- needs hang on the conditions of the mixins alone
need-along : (h : List Set) (gs gs' : List Giving) (x : Set) (i : ℕ) (o : Option ℕ) → ((m : ℕ) → In x m → condition gs' m ≡ condition gs m) → IsNeed h gs x i o → IsNeed h gs' x i o
need-along h gs gs' x i None same need = λ m t member asks. need m t member (sym (ap (λ c. binder c i) (same m member)) ∙ asks)
need-along h gs gs' x i (Some s) same need = record {
  asked = (need.asked.0, need.asked.1, need.asked.2, ap (λ c. binder c i) (same need.asked.0 need.asked.2) ∙ need.asked.3);
  holds = record { declared = need.holds.declared; of_each = λ m t member asks. need.holds.of_each m t member (sym (ap (λ c. binder c i) (same m member)) ∙ asks) };
  least = λ k other. need.least k (record { declared = other.declared; of_each = λ m t member asks. other.of_each m t member (ap (λ c. binder c i) (same m member) ∙ asks) });
}

pub givings_keep : LaterGivingsKeepNeeds
givings_keep h gs g x inside i o need =
    need-along h gs (gs ++ g ∷ []) x i o (λ m member. condition-kept gs g m (Inside-member x (given gs) inside m member)) need
