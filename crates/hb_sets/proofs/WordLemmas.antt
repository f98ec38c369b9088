-- The members that 16 words stand for.
use Rattle.std.proofs.Common.{◌≡◌, ℕ, zero, suc, ◌+◌, ◌*◌, ◌<◌, ◌≤◌, ◌^◌, ◌/◌, ◌%◌, Bool, true, false, cond, ◌&&◌, ◌-◌, not, min, ◌||◌, List, length, refl, sym, ap, ◌∙◌, arith, IsTrue, nat_lt, nat_eq, slice_index, slice_set, replicate, bit_or, bit_and, max, get_or-set_same, get_or-set_other, ◌⊎◌, inl, inr, subst}
use Rattle.std.specs.Int.{bit_at, w64}
use Rattle.std.proofs.lemmas.List.{get_or-replicate, get_or_past}
use Rattle.std.proofs.lemmas.Bool.{cases_lt, cases_eq}
use Rattle.std.proofs.lemmas.Bool.Decides.{nat_tests}
use Rattle.std.proofs.lemmas.Nat.Bits.{bit_at-lt, bit_at_or, bit_at-zero, shr_and_one, bit_at_set_same, bit_at_set_other}
use Rattle.hb_sets.specs.Set.{Set, In, Inside, IsFirstOutside, empty, contains, insert, union, difference}
use Rattle.hb_sets.specs.Words.{has_bit, members_below, members, IsWordOutside, IsOutside, OutsideNone, IsFirstBit}
use Rattle.hb_sets.proofs.SetLemmas.{same_members, contains-with, contains-either, contains-without, contains-none, Inside-of_members}

below_step : (q n : ℕ) (b c : Bool) → (q ≡ n → c ≡ b) → cond b (nat_eq q n || (nat_lt q n && c)) (nat_lt q n && c) ≡ (nat_lt q (suc n) && c)
below_step q n b c same = grind (arith, nat_tests)

contains-cond : (b : Bool) (s : Set) (n q : ℕ) → contains (cond b (insert s n) s) q ≡ cond b (nat_eq q n || contains s q) (contains s q)
contains-cond true s n q = contains-with s n q
contains-cond false s n q = refl

contains-members_below : (n : ℕ) (words : List ℕ) (q : ℕ) → contains (members_below n words) q ≡ (nat_lt q n && has_bit words q)
unfolding members_below
contains-members_below zero words q = contains-none q ∙ grind (arith, nat_tests)
contains-members_below (suc n) words q =
    contains-cond (has_bit words n) (members_below n words) n q
    ∙ ap (λ m. cond (has_bit words n) (nat_eq q n || m) m) (contains-members_below n words q)
    ∙ below_step q n (has_bit words n) (has_bit words q) (λ e. ap (has_bit words) e)

-- the one fact that ties the set to its words
pub contains-members : (words : List ℕ) (q : ℕ) → contains (members words) q ≡ (nat_lt q 1024 && has_bit words q)
unfolding members
contains-members words q = contains-members_below 1024 words q

is_member : (q bit : ℕ) (m : Bool) → m ≡ (nat_lt q 1024 && nat_eq bit 1) → IsTrue m → (q < 1024) × (bit ≡ 1)
is_member q bit m is member = grind (arith, nat_tests)

member_is : (q bit : ℕ) (m : Bool) → m ≡ (nat_lt q 1024 && nat_eq bit 1) → q < 1024 → bit ≡ 1 → IsTrue m
member_is q bit m is small one = grind (arith, nat_tests)

abbrev bit_of : List ℕ → ℕ → ℕ
bit_of words q = bit_at (slice_index words (q / 64)) (q % 64)

pub member_bit : (words : List ℕ) (q : ℕ) → In (members words) q → (q < 1024) × (bit_of words q ≡ 1)
member_bit words q member = is_member q _ _ (contains-members words q) member

pub bit_member : (words : List ℕ) (q : ℕ) → q < 1024 → bit_of words q ≡ 1 → In (members words) q
bit_member words q small one = member_is q _ _ (contains-members words q) small one

zeros-none : (k : ℕ) → slice_index (replicate 16 0) k ≡ 0
zeros-none k = elim (cases_lt k 16) [ inl lt ↦ get_or-replicate 16 k 0 0 lt | inr past ↦ get_or_past (replicate 16 0) k 0 past ]

-- 16 words of zeros have no member
pub members-zeros : members (replicate 16 0) ≡ empty
members-zeros = same_members _ _ (λ q.
    no_member q _ _ _ (contains-members (replicate 16 0) q) (contains-none q) (ap (λ w. bit_at w (q % 64)) (zeros-none (q / 64)) ∙ bit_at-zero (q % 64)))
  where
    no_member : (q bit : ℕ) (m e : Bool) → m ≡ (nat_lt q 1024 && nat_eq bit 1) → e ≡ false → bit ≡ 0 → m ≡ e
    no_member q bit m e is none z = grind (arith, nat_tests)

is_set : (bit : ℕ) → bit < 2 → ¬ (bit ≡ 0) → bit ≡ 1
is_set bit small not_clear = omega arith

-- where a bit that isn't set would lie outside, it is set
carried : (v w : List ℕ) (q : ℕ) → ¬ (IsOutside (slice_index v (q / 64)) (slice_index w (q / 64)) (q % 64)) → In (members v) q → In (members w) q
carried v w q none member =
    let m = member_bit v q member in
    bit_member w q m.0 (is_set _ (bit_at-lt (slice_index w (q / 64)) (q % 64)) (λ clear. none (record { inside = m.1; outside = clear })))

-- no bit outside in any word: the set is inside the other
pub Inside-words : (v w : List ℕ) → ((k : ℕ) → k < 16 → OutsideNone (slice_index v k) (slice_index w k)) → Inside (members v) (members w)
Inside-words v w none = Inside-of_members (members v) (members w) (λ q member.
    let m = member_bit v q member in
    carried v w q (none (q / 64) (omega (arith, m.0)) (q % 64) (omega arith)) member)

word_of : (i b : ℕ) → b < 64 → (i * 64 + b) / 64 ≡ i
word_of i b small = omega arith

bit_in : (i b : ℕ) → b < 64 → (i * 64 + b) % 64 ≡ b
bit_in i b small = omega arith

bit_of-place : (words : List ℕ) (i b : ℕ) → b < 64 → bit_of words (i * 64 + b) ≡ bit_at (slice_index words i) b
bit_of-place words i b small = ap (λ j. bit_at (slice_index words j) ((i * 64 + b) % 64)) (word_of i b small) ∙ ap (bit_at (slice_index words i)) (bit_in i b small)

earlier : (k i b : ℕ) → k < i * 64 + b → b < 64 → (k / 64 < i) ⊎ ((k / 64 ≡ i) × (k % 64 < b))
earlier k i b lt small = elim (cases_lt (k / 64) i) [ inl before ↦ inl before | inr from ↦ inr (omega arith, omega arith) ]

-- the first bit of the first word that has one outside
pub first_outside_words : (v w : List ℕ) (i b : ℕ) → i < 16 → ((k : ℕ) → k < i → OutsideNone (slice_index v k) (slice_index w k)) → IsFirstBit (slice_index v i) (slice_index w i) b → IsFirstOutside (members v) (members w) (i * 64 + b)
first_outside_words v w i b within none bit = record {
  inside = bit_member v (i * 64 + b) (omega (arith, bit.within)) (bit_of-place v i b bit.within ∙ bit.first.inside);
  outside = λ member. apart _ (bit_of-place w i b bit.within ∙ bit.first.outside) (member_bit w (i * 64 + b) member).1;
  least = λ k lt member. carried v w k (none_at k (earlier k i b lt bit.within)) member;
}
  where
    apart : (n : ℕ) → n ≡ 0 → n ≡ 1 → ⊥
    apart n z o = omega arith

    none_at : (k : ℕ) → (k / 64 < i) ⊎ ((k / 64 ≡ i) × (k % 64 < b)) → ¬ (IsOutside (slice_index v (k / 64)) (slice_index w (k / 64)) (k % 64))
    none_at k (inl before) = none (k / 64) before (k % 64) (omega arith)
    none_at k (inr at) = λ out. bit.lowest (k % 64) at.1 (subst (λ (j : ℕ). IsOutside (slice_index v j) (slice_index w j) (k % 64)) at.0 out)

-- a bit more is a member more
set_step : (q n : ℕ) (bit other : ℕ) (m m' e : Bool) → n < 1024 → m ≡ (nat_lt q 1024 && nat_eq other 1) → m' ≡ (nat_lt q 1024 && nat_eq bit 1) → (q ≡ n → bit ≡ 1) → (¬ (q ≡ n) → bit ≡ other) → m' ≡ (nat_eq q n || m)
set_step q n bit other m m' e small is is' same rest = elim (cases_eq q n) [ inl at ↦ let b = same at in grind (arith, nat_tests) | inr off ↦ let b = rest off in grind (arith, nat_tests) ]

unfoldable pub with_bit : List ℕ → ℕ → List ℕ
with_bit words n = slice_set words (n / 64) (bit_or (slice_index words (n / 64)) (1 * 2 ^ (n % 64) % 2 ^ 64))

bit_of-with_same : (words : List ℕ) (n : ℕ) → length words ≡ 16 → n < 1024 → bit_of (with_bit words n) n ≡ 1
unfolding with_bit
bit_of-with_same words n long small =
    let lt : n / 64 < length words = omega arith in
    ap (λ w. bit_at w (n % 64)) (get_or-set_same words (n / 64) _ 0 lt) ∙ bit_at_set_same w64 (slice_index words (n / 64)) (n % 64) (omega arith)

same_place : (q n : ℕ) → q / 64 ≡ n / 64 → q % 64 ≡ n % 64 → q ≡ n
same_place q n word bit = omega arith

bit_of-with_other : (words : List ℕ) (n q : ℕ) → length words ≡ 16 → n < 1024 → ¬ (q ≡ n) → bit_of (with_bit words n) q ≡ bit_of words q
unfolding with_bit
bit_of-with_other words n q long small off =
    let lt : n / 64 < length words = omega arith in
    elim (cases_eq (q / 64) (n / 64)) [
      | inl at ↦
          ap (λ j. bit_at (slice_index (with_bit words n) j) (q % 64)) at
          ∙ ap (λ w. bit_at w (q % 64)) (get_or-set_same words (n / 64) _ 0 lt)
          ∙ bit_at_set_other w64 (slice_index words (n / 64)) (n % 64) (omega arith) (q % 64) (λ e. off (same_place q n at e))
          ∙ ap (λ j. bit_at (slice_index words j) (q % 64)) (sym at)
      | inr apart ↦ ap (λ w. bit_at w (q % 64)) (get_or-set_other words (n / 64) (q / 64) _ 0 apart)
    ]

-- the members, and n
pub members-with : (words : List ℕ) (n : ℕ) → length words ≡ 16 → n < 1024 → members (with_bit words n) ≡ insert (members words) n
members-with words n long small = same_members _ _ (λ q.
    set_step q n _ _ _ _ true small (contains-members words q) (contains-members (with_bit words n) q)
    (λ at. ap (bit_of (with_bit words n)) at ∙ bit_of-with_same words n long small) (bit_of-with_other words n q long small)
    ∙ sym (contains-with (members words) n q))

-- words joined bit by bit have the members of both
either_step : (q bit a b : ℕ) (m s t : Bool) → s ≡ (nat_lt q 1024 && nat_eq a 1) → t ≡ (nat_lt q 1024 && nat_eq b 1) → m ≡ (nat_lt q 1024 && nat_eq bit 1) → a < 2 → b < 2 → bit ≡ max a b → m ≡ (s || t)
either_step q bit a b m s t is_s is_t is small_a small_b e = grind (arith, nat_tests)

pub members-joined : (v w joined : List ℕ) → ((k : ℕ) → k < 16 → slice_index joined k ≡ bit_or (slice_index v k) (slice_index w k)) → members joined ≡ union (members v) (members w)
members-joined v w joined each = same_members _ _ (λ q. at q (cases_lt q 1024) ∙ sym (contains-either (members v) (members w) q))
  where
    beyond : (q bit a b : ℕ) (m s t : Bool) → s ≡ (nat_lt q 1024 && nat_eq a 1) → t ≡ (nat_lt q 1024 && nat_eq b 1) → m ≡ (nat_lt q 1024 && nat_eq bit 1) → 1024 ≤ q → m ≡ (s || t)
    beyond q bit a b m s t is_s is_t is far = grind (arith, nat_tests)

    at : (q : ℕ) → (q < 1024) ⊎ (1024 ≤ q) → contains (members joined) q ≡ (contains (members v) q || contains (members w) q)
    at q (inl small) =
        either_step q (bit_of joined q) (bit_of v q) (bit_of w q) _ _ _ (contains-members v q) (contains-members w q) (contains-members joined q) (bit_at-lt _ _) (bit_at-lt _ _)
        (ap (λ x. bit_at x (q % 64)) (each (q / 64) (omega arith)) ∙ bit_at_or (slice_index v (q / 64)) (slice_index w (q / 64)) (q % 64))
    at q (inr far) = beyond q _ _ _ _ _ _ (contains-members v q) (contains-members w q) (contains-members joined q) far

-- the code's test of one bit
pub has_bit_below : (words : List ℕ) (n i : ℕ) → i ≡ n / 64 → n < 1024 → nat_eq (bit_and (slice_index words i / 2 ^ (n % 64)) 1) 1 ≡ contains (members words) n
has_bit_below words n i at small =
    ap (λ j. nat_eq (bit_and (slice_index words j / 2 ^ (n % 64)) 1) 1) at
    ∙ ap (λ b. nat_eq b 1) (shr_and_one (slice_index words (n / 64)) (n % 64))
    ∙ tested _ _ _ (contains-members words n) small
  where
    tested : (q bit : ℕ) (m : Bool) → m ≡ (nat_lt q 1024 && nat_eq bit 1) → q < 1024 → nat_eq bit 1 ≡ m
    tested q bit m is lt = grind (arith, nat_tests)

pub has_none_above : (words : List ℕ) (n : ℕ) → 1024 ≤ n → nat_lt n 1024 ≡ contains (members words) n
has_none_above words n far = tested _ _ _ (contains-members words n) far
  where
    tested : (q bit : ℕ) (m : Bool) → m ≡ (nat_lt q 1024 && nat_eq bit 1) → 1024 ≤ q → nat_lt q 1024 ≡ m
    tested q bit m is le = grind (arith, nat_tests)

pub members-with_at : (words : List ℕ) (n i : ℕ) → i ≡ n / 64 → length words ≡ 16 → n < 1024 → members (slice_set words i (bit_or (slice_index words i) (1 * 2 ^ (n % 64) % 2 ^ 64))) ≡ insert (members words) n
unfolding with_bit
members-with_at words n i at long small =
    ap (λ j. members (slice_set words j (bit_or (slice_index words j) (1 * 2 ^ (n % 64) % 2 ^ 64)))) at ∙ members-with words n long small

pub first_outside_at : (v w : List ℕ) (i b j : ℕ) → j ≡ i → i < 16 → ((k : ℕ) → k < i → OutsideNone (slice_index v k) (slice_index w k)) → IsFirstBit (slice_index v j) (slice_index w j) b → IsFirstOutside (members v) (members w) (i * 64 + b)
first_outside_at v w i b j at within none bit =
    first_outside_words v w i b within none (subst (λ (k : ℕ). IsFirstBit (slice_index v k) (slice_index w k) b) at bit)

-- words cut bit by bit have the members that the other set hasn't
without_step : (q bit a b : ℕ) (m s t : Bool) → s ≡ (nat_lt q 1024 && nat_eq a 1) → t ≡ (nat_lt q 1024 && nat_eq b 1) → m ≡ (nat_lt q 1024 && nat_eq bit 1) → a < 2 → b < 2 → bit ≡ min a (1 - b) → m ≡ (s && not t)
without_step q bit a b m s t is_s is_t is small_a small_b e = grind (arith, nat_tests)

pub members-cut : (v w cut : List ℕ) → ((k : ℕ) → k < 16 → IsWordOutside (slice_index v k) (slice_index w k) (slice_index cut k)) → members cut ≡ difference (members v) (members w)
members-cut v w cut each = same_members _ _ (λ q. at q (cases_lt q 1024) ∙ sym (contains-without (members v) (members w) q))
  where
    beyond : (q bit a b : ℕ) (m s t : Bool) → s ≡ (nat_lt q 1024 && nat_eq a 1) → t ≡ (nat_lt q 1024 && nat_eq b 1) → m ≡ (nat_lt q 1024 && nat_eq bit 1) → 1024 ≤ q → m ≡ (s && not t)
    beyond q bit a b m s t is_s is_t is far = grind (arith, nat_tests)

    at : (q : ℕ) → (q < 1024) ⊎ (1024 ≤ q) → contains (members cut) q ≡ (contains (members v) q && not (contains (members w) q))
    at q (inl small) =
        without_step q (bit_of cut q) (bit_of v q) (bit_of w q) _ _ _ (contains-members v q) (contains-members w q) (contains-members cut q) (bit_at-lt _ _) (bit_at-lt _ _) (each (q / 64) (omega arith) (q % 64) (omega arith))
    at q (inr far) = beyond q _ _ _ _ _ _ (contains-members v q) (contains-members w q) (contains-members cut q) far
