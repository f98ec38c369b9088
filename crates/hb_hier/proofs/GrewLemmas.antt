-- A hierarchy that grew, and the way back.
use Rattle.std.proofs.Common.{◌≡◌, ℕ, zero, suc, ◌+◌, ◌<◌, ◌≤◌, Bool, true, false, true≢false, cond, ◌&&◌, ◌||◌, nat_lt, List, [], ◌∷◌, ◌++◌, length, take, filter, min, refl, sym, ap, ◌∙◌, subst, arith, append_assoc, length-append, Option, Some, None, slice_get}
use Rattle.std.specs.List.{list_all, list_any}
use Rattle.std.proofs.lemmas.List.{append-nil}
use Rattle.std.proofs.lemmas.List.Folds.{list_all-append, list_any-append}
use Rattle.std.proofs.lemmas.List.Elements.{filter-append}
use Rattle.std.proofs.lemmas.Bool.Decides.{nat_tests}
use Rattle.std.proofs.Math.Seq.{take-append_seam}
use Rattle.hb_base.specs.declared.name_id.NameId.{NameId}
use Rattle.hb_sets.specs.Set.{Set}
use Rattle.hb_order.specs.declared.ids.FactoryId.{FactoryId}
use Rattle.hb_order.specs.declared.ids.StructId.{StructId}
use Rattle.hb_tree.specs.declared.leaves.ConstId.{ConstId}
use Rattle.hb_hier.specs.declared.known.HierMark.{HierMark}
use Rattle.hb_hier.specs.declared.known.Known.{Known}
use Rattle.hb_hier.specs.declared.known.Known.TheVariants.{Mixin, Factory, Structure}
use Rattle.hb_hier.specs.Hierarchy.{Hierarchy, IsDeclared}
use Rattle.hb_hier.specs.Declaring.{with_mixin, with_factory, with_structure, with_ending}
use Rattle.hb_hier.specs.Giving.{AllBindersBelow, with_giving}
use Rattle.hb_hier.specs.Undoing.{mark_of, is_listed, is_kept, AllListed, cut, CanStand, IsWhole, Grew}

filter-all : {X : Type 0} (p : X → Bool) (xs : List X) → list_all p xs ≡ true → filter p xs ≡ xs
filter-all p [] all = refl
filter-all p (x ∷ xs) all = by (p x) all (filter-all p xs)
  where
    by : (b : Bool) → (b && list_all p xs) ≡ true → (list_all p xs ≡ true → filter p xs ≡ xs) → cond b (x ∷ filter p xs) (filter p xs) ≡ x ∷ xs
    by true is rest = ap (λ ys. x ∷ ys) (rest is)
    by false is rest = absurd (true≢false (sym is))

filter-none : {X : Type 0} (p : X → Bool) (xs : List X) → list_any p xs ≡ false → filter p xs ≡ []
filter-none p [] off = refl
filter-none p (x ∷ xs) off = by (p x) off (filter-none p xs)
  where
    by : (b : Bool) → (b || list_any p xs) ≡ false → (list_any p xs ≡ false → filter p xs ≡ []) → cond b (x ∷ filter p xs) (filter p xs) ≡ []
    by true is rest = absurd (true≢false is)
    by false is rest = rest is

filter-old : {X : Type 0} (p : X → Bool) (xs ys : List X) → list_all p xs ≡ true → list_any p ys ≡ false → filter p (xs ++ ys) ≡ xs
filter-old p xs ys all off = filter-append p xs ys ∙ ap (λ zs. zs ++ filter p ys) (filter-all p xs all) ∙ ap (λ zs. xs ++ zs) (filter-none p ys off) ∙ append-nil xs

-- what is among so many is among more
one-more : (a b c a' b' c' : ℕ) (k : Known) → a ≤ a' → b ≤ b' → c ≤ c' → is_listed a b c k ≡ true → is_listed a' b' c' k ≡ true
one-more a b c a' b' c' (Mixin m) la lb lc is = grind (arith, nat_tests)
one-more a b c a' b' c' (Factory m) la lb lc is = grind (arith, nat_tests)
one-more a b c a' b' c' (Structure m) la lb lc is = grind (arith, nat_tests)

all-implied : {X : Type 0} (p q : X → Bool) (xs : List X) → ((x : X) → p x ≡ true → q x ≡ true) → list_all p xs ≡ true → list_all q xs ≡ true
all-implied p q [] implied all = refl
all-implied p q (x ∷ xs) implied all = by (p x) (q x) (list_all p xs) (list_all q xs) all (implied x) (all-implied p q xs implied)
  where
    by : (a b c d : Bool) → (a && c) ≡ true → (a ≡ true → b ≡ true) → (c ≡ true → d ≡ true) → (b && d) ≡ true
    by true b c d is f g = rw (f refl) (g is)
    by false b c d is f g = absurd (true≢false (sym is))

pub listed-more : (a b c a' b' c' : ℕ) (order : List Known) → a ≤ a' → b ≤ b' → c ≤ c' → AllListed a b c order → AllListed a' b' c' order
listed-more a b c a' b' c' order la lb lc = all-implied (is_listed a b c) (is_listed a' b' c') order (λ k. one-more a b c a' b' c' k la lb lc)

pub listed-push : (a b c : ℕ) (order : List Known) (k : Known) → AllListed a b c order → is_listed a b c k ≡ true → AllListed a b c (order ++ k ∷ [])
listed-push a b c order k all is = list_all-append (is_listed a b c) order (k ∷ []) ∙ rw (all, is) refl

pub listed-after : (a b c a' b' c' : ℕ) (order order' : List Known) (k : Known) → order' ≡ order ++ k ∷ [] → a ≤ a' → b ≤ b' → c ≤ c' → is_listed a' b' c' k ≡ true → AllListed a b c order → AllListed a' b' c' order'
listed-after a b c a' b' c' order order' k is la lb lc new all =
    subst (AllListed a' b' c') (sym is) (listed-push a' b' c' order k (listed-more a b c a' b' c' order la lb lc all) new)

pub last-listed : (n n' : ℕ) → n' ≡ n + 1 → nat_lt n n' ≡ true
last-listed n n' is = grind (arith, nat_tests)

-- what is kept of what is among so many
both : (a b c a' b' c' a'' b'' c'' : ℕ) (k : Known) → a'' ≡ min a a' → b'' ≡ min b b' → c'' ≡ min c c' → is_listed a b c k ≡ true → is_listed a' b' c' k ≡ true → is_listed a'' b'' c'' k ≡ true
both a b c a' b' c' a'' b'' c'' (Mixin m) la lb lc is is' = grind (arith, nat_tests)
both a b c a' b' c' a'' b'' c'' (Factory m) la lb lc is is' = grind (arith, nat_tests)
both a b c a' b' c' a'' b'' c'' (Structure m) la lb lc is is' = grind (arith, nat_tests)

filter-both : {X : Type 0} (p q r : X → Bool) (xs : List X) → ((x : X) → p x ≡ true → q x ≡ true → r x ≡ true) → list_all q xs ≡ true → list_all r (filter p xs) ≡ true
filter-both p q r [] implied all = refl
filter-both p q r (x ∷ xs) implied all = by (p x) (q x) (list_all q xs) all (implied x) (filter-both p q r xs implied)
  where
    by : (a b c : Bool) → (b && c) ≡ true → (a ≡ true → b ≡ true → r x ≡ true) → (c ≡ true → list_all r (filter p xs) ≡ true) → list_all r (cond a (x ∷ filter p xs) (filter p xs)) ≡ true
    by true true c is f g = rw (f refl refl) (g is)
    by false true c is f g = g is
    by a false c is f g = absurd (true≢false (sym is))

pub listed-cut : (a b c a' b' c' a'' b'' c'' : ℕ) (order order' : List Known) → order' ≡ filter (is_listed a b c) order → a'' ≡ min a a' → b'' ≡ min b b' → c'' ≡ min c c' → AllListed a' b' c' order → AllListed a'' b'' c'' order'
listed-cut a b c a' b' c' a'' b'' c'' order order' is la lb lc all =
    rw is (filter-both (is_listed a b c) (is_listed a' b' c') (is_listed a'' b'' c'') order (λ k. both a b c a' b' c' a'' b'' c'' k la lb lc) all)

-- a number that is in the order is declared
below : (a b : ℕ) → nat_lt a b ≡ true → a < b
below a b is = grind (arith, nat_tests)

listed-at : (p : Known → Bool) (order : List Known) (i : ℕ) (k : Known) → list_all p order ≡ true → slice_get order i ≡ Some k → p k ≡ true
listed-at p [] i k all is = absurd cc
listed-at p (x ∷ order) zero k all is = by (p x) all (ap p (some-is is))
  where
    some-is : Some x ≡ Some k → x ≡ k
    some-is is = cc

    by : (b : Bool) → (b && list_all p order) ≡ true → b ≡ p k → p k ≡ true
    by true all is = sym is
    by false all is = absurd (true≢false (sym all))
listed-at p (x ∷ order) (suc i) k all is = by (p x) all (λ rest. listed-at p order i k rest is)
  where
    by : (b : Bool) → (b && list_all p order) ≡ true → (list_all p order ≡ true → p k ≡ true) → p k ≡ true
    by true all rest = rest all
    by false all rest = absurd (true≢false (sym all))

pub listed_declared : (h : Hierarchy) (i : ℕ) (k : Known) → AllListed (length h.mixins) (length h.factories) (length h.structures) h.order → slice_get h.order i ≡ Some k → IsDeclared h k
listed_declared h i (Mixin m) all is = below m.0 (length h.mixins) (listed-at (is_listed (length h.mixins) (length h.factories) (length h.structures)) h.order i (Mixin m) all is)
listed_declared h i (Factory f) all is = below f.0 (length h.factories) (listed-at (is_listed (length h.mixins) (length h.factories) (length h.structures)) h.order i (Factory f) all is)
listed_declared h i (Structure s) all is = below s.0 (length h.structures) (listed-at (is_listed (length h.mixins) (length h.factories) (length h.structures)) h.order i (Structure s) all is)

-- GROWTH

pub grew_same : (h h' : Hierarchy) → h' ≡ h → Grew h h'
grew_same h h' is = rw is record {
  order = [];
  mixins = [];
  factories = [];
  endings = [];
  structures = [];
  givings = [];
  order_is = sym (append-nil h.order);
  mixins_are = sym (append-nil h.mixins);
  factories_are = sym (append-nil h.factories);
  endings_are = sym (append-nil h.endings);
  structures_are = sym (append-nil h.structures);
  givings_are = sym (append-nil h.givings);
  order_new = refl;
}

past : (a : ℕ) → nat_lt a a ≡ false
past a = grind (arith, nat_tests)

pub grew_mixin : (h h' : Hierarchy) (n : NameId) (items fields : List NameId) → h' ≡ with_mixin h n items fields → Grew h h'
grew_mixin h h' n items fields is = rw is record {
  order = Mixin (record { 0 = length h.mixins }) ∷ [];
  mixins = _ ∷ [];
  factories = [];
  endings = [];
  structures = [];
  givings = [];
  order_is = refl;
  mixins_are = refl;
  factories_are = sym (append-nil h.factories);
  endings_are = sym (append-nil h.endings);
  structures_are = sym (append-nil h.structures);
  givings_are = sym (append-nil h.givings);
  order_new = rw (past (length h.mixins)) refl;
}

pub grew_factory : (h h' : Hierarchy) (n : NameId) (items fields : List NameId) → h' ≡ with_factory h n items fields → Grew h h'
grew_factory h h' n items fields is = rw is record {
  order = Factory (record { 0 = length h.factories }) ∷ [];
  mixins = [];
  factories = _ ∷ [];
  endings = [];
  structures = [];
  givings = [];
  order_is = refl;
  mixins_are = sym (append-nil h.mixins);
  factories_are = refl;
  endings_are = sym (append-nil h.endings);
  structures_are = sym (append-nil h.structures);
  givings_are = sym (append-nil h.givings);
  order_new = rw (past (length h.factories)) refl;
}

pub grew_structure : (h h' : Hierarchy) (n : NameId) (items : List NameId) → h' ≡ with_structure h n items → Grew h h'
grew_structure h h' n items is = rw is record {
  order = [];
  mixins = [];
  factories = [];
  endings = [];
  structures = _ ∷ [];
  givings = [];
  order_is = sym (append-nil h.order);
  mixins_are = sym (append-nil h.mixins);
  factories_are = sym (append-nil h.factories);
  endings_are = sym (append-nil h.endings);
  structures_are = refl;
  givings_are = sym (append-nil h.givings);
  order_new = refl;
}

pub grew_ending : (h h' : Hierarchy) (f : FactoryId) (x : Set) → h' ≡ with_ending h f x → Grew h h'
grew_ending h h' f x is = rw is record {
  order = [];
  mixins = [];
  factories = [];
  endings = _ ∷ [];
  structures = [];
  givings = [];
  order_is = sym (append-nil h.order);
  mixins_are = sym (append-nil h.mixins);
  factories_are = sym (append-nil h.factories);
  endings_are = refl;
  structures_are = sym (append-nil h.structures);
  givings_are = sym (append-nil h.givings);
  order_new = refl;
}

pub grew_giving : (h h' : Hierarchy) (k : ConstId) (binders : List (Option StructId)) (x : Set) → h' ≡ with_giving h k binders x → Grew h h'
grew_giving h h' k binders x is = rw is record {
  order = [];
  mixins = [];
  factories = [];
  endings = [];
  structures = [];
  givings = _ ∷ [];
  order_is = sym (append-nil h.order);
  mixins_are = sym (append-nil h.mixins);
  factories_are = sym (append-nil h.factories);
  endings_are = sym (append-nil h.endings);
  structures_are = sym (append-nil h.structures);
  givings_are = refl;
  order_new = refl;
}

-- what is not among more is not among fewer
one-fewer : (a b c a' b' c' : ℕ) (k : Known) → a ≤ a' → b ≤ b' → c ≤ c' → is_listed a' b' c' k ≡ false → is_listed a b c k ≡ false
one-fewer a b c a' b' c' (Mixin m) la lb lc is = grind (arith, nat_tests)
one-fewer a b c a' b' c' (Factory m) la lb lc is = grind (arith, nat_tests)
one-fewer a b c a' b' c' (Structure m) la lb lc is = grind (arith, nat_tests)

any-implied : {X : Type 0} (p q : X → Bool) (xs : List X) → ((x : X) → p x ≡ false → q x ≡ false) → list_any p xs ≡ false → list_any q xs ≡ false
any-implied p q [] implied off = refl
any-implied p q (x ∷ xs) implied off = by (p x) (q x) (list_any p xs) (list_any q xs) off (implied x) (any-implied p q xs implied)
  where
    by : (a b c d : Bool) → (a || c) ≡ false → (a ≡ false → b ≡ false) → (c ≡ false → d ≡ false) → (b || d) ≡ false
    by true b c d is f g = absurd (true≢false is)
    by false b c d is f g = rw (f refl) (g is)

longer : {X : Type 0} (xs ys zs : List X) → ys ≡ xs ++ zs → length xs ≤ length ys
longer xs ys zs is = omega (arith, ap length is, length-append xs zs)

joined : {X : Type 0} (xs ys zs vs ws : List X) → ys ≡ xs ++ vs → zs ≡ ys ++ ws → zs ≡ xs ++ (vs ++ ws)
joined xs ys zs vs ws is is' = is' ∙ ap (λ l. l ++ ws) is ∙ append_assoc xs vs ws

pub grew_trans : (a b c : Hierarchy) → Grew a b → Grew b c → Grew a c
grew_trans a b c f g = record {
  order = f.order ++ g.order;
  mixins = f.mixins ++ g.mixins;
  factories = f.factories ++ g.factories;
  endings = f.endings ++ g.endings;
  structures = f.structures ++ g.structures;
  givings = f.givings ++ g.givings;
  order_is = joined a.order b.order c.order f.order g.order f.order_is g.order_is;
  mixins_are = joined a.mixins b.mixins c.mixins f.mixins g.mixins f.mixins_are g.mixins_are;
  factories_are = joined a.factories b.factories c.factories f.factories g.factories f.factories_are g.factories_are;
  endings_are = joined a.endings b.endings c.endings f.endings g.endings f.endings_are g.endings_are;
  structures_are = joined a.structures b.structures c.structures f.structures g.structures f.structures_are g.structures_are;
  givings_are = joined a.givings b.givings c.givings f.givings g.givings f.givings_are g.givings_are;
  order_new = list_any-append (is_kept (mark_of a)) f.order g.order ∙ rw f.order_new (any-implied (is_kept (mark_of b)) (is_kept (mark_of a)) g.order
      (λ k. one-fewer (length a.mixins) (length a.factories) (length a.structures) (length b.mixins) (length b.factories) (length b.structures) k
      (longer a.mixins b.mixins f.mixins f.mixins_are) (longer a.factories b.factories f.factories f.factories_are) (longer a.structures b.structures f.structures f.structures_are))
      g.order_new);
}

-- THE WAY BACK

back-to : {X : Type 0} (xs ys zs : List X) → ys ≡ xs ++ zs → take (length xs) ys ≡ xs
back-to xs ys zs is = ap (take (length xs)) is ∙ take-append_seam xs zs

pub stands : (old new : Hierarchy) (mark : HierMark) → IsWhole old → mark ≡ mark_of old → Grew old new → CanStand new mark
stands old new mark whole is grew = rw is record {
  givings = longer old.givings new.givings grew.givings grew.givings_are;
  asked = subst (AllBindersBelow (length old.structures)) (sym (back-to old.givings new.givings grew.givings grew.givings_are)) whole.asked;
}

pub gone_back : (old new new' : Hierarchy) (mark : HierMark) → IsWhole old → mark ≡ mark_of old → Grew old new → new' ≡ cut new mark → new' ≡ old
gone_back old new new' mark whole is grew was = was ∙ ap (cut new) is ∙ (λ i. record {
  order = (ap (filter (is_kept (mark_of old))) grew.order_is ∙ filter-old (is_kept (mark_of old)) old.order grew.order whole.ordered grew.order_new) i;
  mixins = back-to old.mixins new.mixins grew.mixins grew.mixins_are i;
  factories = back-to old.factories new.factories grew.factories grew.factories_are i;
  endings = back-to old.endings new.endings grew.endings grew.endings_are i;
  structures = back-to old.structures new.structures grew.structures grew.structures_are i;
  givings = back-to old.givings new.givings grew.givings grew.givings_are i;
})
