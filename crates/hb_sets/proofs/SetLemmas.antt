-- Inclusion and equality of finite sets of numbers, by their members.
use Rattle.std.proofs.Common.{Option, None, Some, is_some, IsNone, IfSome, not, ◌↔◌, subst, true≢false, ◌≡◌, ℕ, Bool, true, false, ◌||◌, ◌&&◌, IsTrue, sym, ◌∙◌, ap, refl}
use Rattle.std.specs.Prelude.{nat_eq}
use Rattle.std.specs.Ordering.{nat_cmp}
use Rattle.std.specs.Cmp.{nat_cmp_total, unsigned_tied}
use Rattle.std.specs.FinSet.{nat_cmp-IsAntisymmetric, same_set, contains-empty, contains-insert, contains-union, contains-difference, is_subset-contains, contains-is_subset}
use Rattle.hb_sets.specs.Set.{Set, In, Inside, IsFirstOutside, empty, contains, insert, union, difference, is_subset}

-- two sets with the same members are equal
pub same_members : (s t : Set) → ((q : ℕ) → contains s q ≡ contains t q) → s ≡ t
same_members s t is = same_set nat_cmp_total nat_cmp-IsAntisymmetric s t is

-- the members of s and k
pub contains-with : (s : Set) (k q : ℕ) → contains (insert s k) q ≡ (nat_eq q k || contains s q)
contains-with s k q = contains-insert nat_cmp_total s k q ∙ ap (λ b. b || contains s q) (unsigned_tied q k)

pub contains-either : (s t : Set) (q : ℕ) → contains (union s t) q ≡ (contains s q || contains t q)
contains-either s t q = contains-union nat_cmp_total s t q

pub contains-without : (s t : Set) (q : ℕ) → contains (difference s t) q ≡ (contains s q && not (contains t q))
contains-without s t q = contains-difference nat_cmp_total s t q

pub contains-none : (q : ℕ) → contains {R = nat_cmp} empty q ≡ false
contains-none q = contains-empty nat_cmp q

-- inclusion, member by member
pub Inside-member : (s t : Set) → Inside s t → (q : ℕ) → In s q → In t q
Inside-member s t inside q member = is_subset-contains nat_cmp_total s t inside q member

pub Inside-of_members : (s t : Set) → ((q : ℕ) → In s q → In t q) → Inside s t
Inside-of_members s t each = contains-is_subset nat_cmp_total s t each

pub Inside-itself : (s : Set) → Inside s s
Inside-itself s = Inside-of_members s s (λ q member. member)

pub Inside-through : (s t u : Set) → Inside s t → Inside t u → Inside s u
Inside-through s t u first second =
    Inside-of_members s u (λ q member. Inside-member t u second q (Inside-member s t first q member))

-- each inside the other: the same set
pub Inside-both : (s t : Set) → Inside s t → Inside t s → s ≡ t
Inside-both s t there back = same_members s t (λ q. alike _ _ (Inside-member s t there q) (Inside-member t s back q))
  where
    alike : (a b : Bool) → (IsTrue a → IsTrue b) → (IsTrue b → IsTrue a) → a ≡ b
    alike true true f g = refl
    alike true false f g = sym (f refl)
    alike false true f g = g refl
    alike false false f g = refl

pub Inside-empty : (s : Set) → Inside empty s
Inside-empty s = Inside-of_members empty s (λ q member. let none = contains-none q in cc)

-- one member outside, and there is no inclusion
pub outside-refutes : (s t : Set) (n : ℕ) → In s n → ¬ (In t n) → is_subset s t ≡ false
outside-refutes s t n member outside = refuted (is_subset s t) (λ inside. outside (Inside-member s t inside n member))
  where
    refuted : (b : Bool) → ¬ (IsTrue b) → b ≡ false
    refuted true f = absurd (f refl)
    refuted false f = refl

-- what `subset` answers, from the first member outside
pub subset_by_first : (s t : Set) (found : Option ℕ) (b : Bool) → is_some found ≡ not b → (IsNone found → Inside s t) → IfSome found (λ n. IsFirstOutside s t n) → b ≡ is_subset s t
subset_by_first s t None true is none first = sym (none refl)
subset_by_first s t None false is none first = cc
subset_by_first s t (Some n) true is none first = cc
subset_by_first s t (Some n) false is none first = sym (outside-refutes s t n first.inside first.outside)

-- what `same` answers, from inclusion both ways
pub same_both : (s t : Set) (b : Bool) → true ≡ is_subset s t → b ≡ is_subset t s → IsTrue b ↔ (s ≡ t)
same_both s t b there back =
    (λ yes_. Inside-both s t (sym there) (sym back ∙ yes_), λ e. back ∙ subst (λ (u : Set). Inside u s) e (Inside-itself s))

pub same_refused : (s t : Set) (b : Bool) → b ≡ false → b ≡ is_subset s t → IsTrue b ↔ (s ≡ t)
same_refused s t b off is =
    (λ on. absurd (true≢false (sym on ∙ off)), λ e. is ∙ subst (λ (u : Set). Inside s u) e (Inside-itself s))
