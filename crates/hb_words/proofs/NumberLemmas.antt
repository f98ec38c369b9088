-- Digits that are read one after another.
use Rattle.std.proofs.Common.{◌≡◌, ℕ, ◌+◌, ◌<◌, ◌≤◌, ◌==◌, false, true≢false, List, length, drop, fold, slice_index_or, refl, sym, ap, ◌∙◌}
use Rattle.std.proofs.lemmas.List.{drop_all, drop_more}
use Rattle.hb_words.specs.Numbers.{AreDigits, IsDigit, IsNumber, longer, value}

-- after the first i digits, which made n
pub record IsRead (digits : List ℕ) (i n : ℕ) : Type 0 where
  pub value_is : fold longer n (drop i digits) ≡ value digits
  pub digits_are : AreDigits (drop i digits) → AreDigits digits

pub begun : (digits : List ℕ) → IsRead digits 0 0
begun digits = record { value_is = refl; digits_are = λ h. h }

pub next :
    (digits : List ℕ) (i n m : ℕ) → i < length digits → IsDigit (slice_index_or digits i 0) → m ≡ longer n (slice_index_or digits i 0)
    → IsRead digits i n → IsRead digits (i + 1) m
next digits i n m l d is r = record {
  value_is = ap (λ x. fold longer x (drop (i + 1) digits)) is ∙ sym (ap (fold longer n) (drop_more digits i 0 l)) ∙ r.value_is;
  digits_are = λ h. r.digits_are (rw (drop_more digits i 0 l) (d, h));
}

pub ended : (text digits : List ℕ) (i n : ℕ) → digits ≡ text → (length digits == 0) ≡ false → length digits ≤ i → IsRead digits i n → IsNumber text n
ended text digits i n same some end r = rw (sym same) (record {
  some = λ none. true≢false (sym (ap (λ x. length x == 0) none) ∙ some);
  digits = r.digits_are (rw (drop_all i digits end) tt);
  value_is = sym (ap (fold longer n) (drop_all i digits end)) ∙ r.value_is;
})
