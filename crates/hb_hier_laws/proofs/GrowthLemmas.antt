-- What later calls leave as it is.
use Rattle.std.proofs.Common.{◌≡◌, ℕ, suc, ◌+◌, ◌<◌, ◌≤◌, Bool, true, false, true≢false, cond, not, ◌||◌, List, [], ◌∷◌, ◌++◌, length, get_or, Option, None, Some, refl, sym, ap, ◌∙◌, subst, arith, nat_eq, nat_lt}
use Rattle.std.specs.Prelude.{position}
use Rattle.std.specs.List.{position_or_len}
use Rattle.std.specs.Option.{option_map}
use Rattle.std.proofs.lemmas.Bool.Decides.{nat_tests}
use Rattle.std.proofs.lemmas.List.{get_or_append_left, length_push}
use Rattle.std.proofs.lemmas.List.Folds.{position_or_len_push}
use Rattle.std.proofs.lemmas.List.Sums.{prefix_len-le-length}
use Rattle.hb_base.specs.declared.name_id.NameId.{NameId}
use Rattle.hb_hier.specs.declared.known.Known.{Known}
use Rattle.hb_hier.specs.declared.known.Known.TheVariants.{Mixin, Factory, Structure}
use Rattle.hb_hier.specs.Hierarchy.{Hierarchy, Ended, unended, IsDeclared, known_as, first_of, ended, provision}

-- the first place that passes, after one more item
module _ {X : Type 0} (p : X → Bool) (xs : List X) (y : X) where
  place-le : position_or_len p xs ≤ length xs
  place-le = prefix_len-le-length (λ x. not (p x)) xs

  pub position-other : p y ≡ false → position p (xs ++ y ∷ []) ≡ position p xs
  position-other fails = step (position_or_len p xs) (length xs) (p y) (position_or_len p (xs ++ y ∷ [])) (length (xs ++ y ∷ [])) (position_or_len_push p xs y) (length_push xs y) place-le fails
    where
      step : (n l : ℕ) (b : Bool) (m k : ℕ) → m ≡ cond (nat_eq n l) (l + cond b 0 1) n → k ≡ l + 1 → n ≤ l → b ≡ false → cond (nat_lt m k) (Some m) None ≡ cond (nat_lt n l) (Some n) None
      step n l b m k is long le off = grind (arith, nat_tests)

  pub position-new : position p xs ≡ None → p y ≡ true → position p (xs ++ y ∷ []) ≡ Some (length xs)
  position-new none passes = step (position_or_len p xs) (length xs) (p y) (position_or_len p (xs ++ y ∷ [])) (length (xs ++ y ∷ [])) (position_or_len_push p xs y) (length_push xs y) place-le none passes
    where
      step : (n l : ℕ) (b : Bool) (m k : ℕ) → m ≡ cond (nat_eq n l) (l + cond b 0 1) n → k ≡ l + 1 → n ≤ l → cond (nat_lt n l) (Some n) None ≡ None → b ≡ true → cond (nat_lt m k) (Some m) None ≡ Some l
      step n l b m k is long le none on = grind (arith, nat_tests)

pub position-below : {X : Type 0} (p : X → Bool) (xs : List X) (i : ℕ) → position p xs ≡ Some i → i < length xs
position-below p xs i is = step (position_or_len p xs) (length xs) is
  where
    step : (n l : ℕ) → cond (nat_lt n l) (Some n) None ≡ Some i → i < l
    step n l is = grind (arith, nat_tests)

ended-below : (es : List Ended) (f : ℕ) → ended es f ≡ true → position_or_len (λ e. nat_eq e.factory.0 f) es < length es
ended-below [] f is = absurd (true≢false (sym is))
ended-below (x ∷ es) f is = step (nat_eq x.factory.0 f) (ended es f) (position_or_len (λ e. nat_eq e.factory.0 f) es) (length es) is (λ on. ended-below es f on)
  where
    step : (b c : Bool) (n l : ℕ) → (b || c) ≡ true → (c ≡ true → n < l) → cond (not b) (1 + n) 0 < suc l
    step true c n l is rest = omega arith
    step false c n l is rest = omega (arith, rest is)

place-kept : (n l : ℕ) (b : Bool) (m : ℕ) → m ≡ cond (nat_eq n l) (l + cond b 0 1) n → n < l → m ≡ n
place-kept n l b m is lt = grind (arith, nat_tests)

-- an ended section provides what it did
pub provision-push : (es : List Ended) (e : Ended) (f : ℕ) → ended es f ≡ true → provision (es ++ e ∷ []) f ≡ provision es f
provision-push es e f on =
    ap (λ n. (get_or (es ++ e ∷ []) n unended).provided) (place-kept _ _ _ _ (position_or_len_push (λ e. nat_eq e.factory.0 f) es e) (ended-below es f on))
    ∙ ap (λ d. d.provided) (get_or_append_left es (e ∷ []) unended (position_or_len (λ e. nat_eq e.factory.0 f) es) (ended-below es f on))

numbered : (make : ℕ → Known) (o : Option ℕ) (k : Known) → option_map make o ≡ Some k → (i : ℕ) × (o ≡ Some i) × (make i ≡ k)
numbered make None k is = absurd cc
numbered make (Some i) k is = (i, refl, cc)

unnumbered : (make : ℕ → Known) (o : Option ℕ) → option_map make o ≡ None → o ≡ None
unnumbered make None is = refl
unnumbered make (Some i) is = absurd cc

by-first : {P : Type 0} (a b : Option Known) (k : Known) → first_of a b ≡ Some k → (a ≡ Some k → P) → (b ≡ Some k → P) → P
by-first None b k is one other = other is
by-first (Some j) b k is one other = one is

-- what a name stands for is declared
pub known-declared : (h : Hierarchy) (n : NameId) (k : Known) → known_as h n ≡ Some k → IsDeclared h k
known-declared h n k is =
    by-first _ _ k is
    (λ found. let at = numbered (λ i. Mixin (record { 0 = i })) _ k found in subst (IsDeclared h) at.2 (position-below (λ d. nat_eq d.name.0 n.0) h.mixins at.0 at.1))
    (λ more. by-first _ _ k more
    (λ found. let at = numbered (λ i. Factory (record { 0 = i })) _ k found in subst (IsDeclared h) at.2 (position-below (λ d. nat_eq d.name.0 n.0) h.factories at.0 at.1))
    (λ found. let at = numbered (λ i. Structure (record { 0 = i })) _ k found in subst (IsDeclared h) at.2 (position-below (λ d. nat_eq d.name.0 n.0) h.structures at.0 at.1)))

none-of : (a b : Option Known) → first_of a b ≡ None → (a ≡ None) × (b ≡ None)
none-of None b is = (refl, is)
none-of (Some k) b is = absurd cc

-- no list has a name that isn't known
module _ (h : Hierarchy) (n : NameId) (none : known_as h n ≡ None) where
  pub none-of-mixins : position (λ d. nat_eq d.name.0 n.0) h.mixins ≡ None
  none-of-mixins = unnumbered (λ i. Mixin (record { 0 = i })) _ (none-of _ _ none).0

  pub none-of-factories : position (λ d. nat_eq d.name.0 n.0) h.factories ≡ None
  none-of-factories = unnumbered (λ i. Factory (record { 0 = i })) _ (none-of _ _ (none-of _ _ none).1).0

  pub none-of-structures : position (λ d. nat_eq d.name.0 n.0) h.structures ≡ None
  none-of-structures = unnumbered (λ i. Structure (record { 0 = i })) _ (none-of _ _ (none-of _ _ none).1).1

-- an ended section stays ended
pub ended-kept : (es : List Ended) (e : Ended) (f : ℕ) → ended es f ≡ true → ended (es ++ e ∷ []) f ≡ true
ended-kept [] e f on = absurd (true≢false (sym on))
ended-kept (x ∷ es) e f on = step (nat_eq x.factory.0 f) (ended es f) (ended (es ++ e ∷ []) f) on (λ rest. ended-kept es e f rest)
  where
    step : (a b c : Bool) → (a || b) ≡ true → (b ≡ true → c ≡ true) → (a || c) ≡ true
    step true b c is rest = refl
    step false b c is rest = rest is
