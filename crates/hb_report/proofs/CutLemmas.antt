-- A text and its front are cut alike.
use Rattle.std.specs.Prelude.{cond, nat_le, ◌++◌, codes, ◌⊎◌}
use Rattle.std.specs.Str.Lossy.{utf8_lossy}
use Rattle.std.proofs.Common.{◌≡◌, ℕ, zero, suc, ◌≤◌, ◌<◌, Bool, true, false, List, [], ◌∷◌, length, take, min, refl, ap, ◌∙◌, sym, arith, inl, inr}
use Rattle.std.proofs.lemmas.List.{length-take}
use Rattle.std.proofs.lemmas.Bool.Decides.{leb_tells}
use Rattle.hb_writer.proofs.PieceLemmas.{whole_front}
use Rattle.hb_report.specs.Lines.{cut_text}

-- the front of a longer front
front_of : (l : List ℕ) (m n : ℕ) → m ≤ n → take m (take n l) ≡ take m l
front_of l zero n h = refl
front_of [] (suc m) zero h = refl
front_of [] (suc m) (suc n) h = refl
front_of (x ∷ l) (suc m) zero h = absurd (omega (arith, h))
front_of (x ∷ l) (suc m) (suc n) h = ap (λ r. x ∷ r) (front_of l m n (omega (arith, h)))

cut_long : (s : List ℕ) → nat_le (length s) 1000 ≡ false → cut_text s ≡ utf8_lossy (take 1000 s) ++ codes "..."
cut_long s e = ap (λ b. cond b s (utf8_lossy (take 1000 s) ++ codes "...")) e

fronts : (s t : List ℕ) → take 1001 s ≡ take 1001 t → take 1000 s ≡ take 1000 t
fronts s t e = sym (front_of s 1000 1001 (omega arith)) ∙ (ap (λ l. take 1000 l) e ∙ front_of t 1000 1001 (omega arith))

abbrev Told : ℕ → ℕ → Type 0
Told a b = ((nat_le a b ≡ true) × (a ≤ b)) ⊎ ((nat_le a b ≡ false) × (b < a))

by_length : (s t : List ℕ) → take 1001 s ≡ take 1001 t → Told (length s) 1000 → Told (length t) 1000 → cut_text s ≡ cut_text t
by_length s t e (inl a) b = ap cut_text (whole_front 1001 s t (omega (arith, a.1)) e)
by_length s t e (inr a) (inl b) =
    let l : min 1001 (length s) ≡ min 1001 (length t) = sym (length-take 1001 s) ∙ (ap length e ∙ length-take 1001 t) in
    absurd (omega (arith, l, a.1, b.1))
by_length s t e (inr a) (inr b) = cut_long s a.0 ∙ (ap (λ l. utf8_lossy l ++ codes "...") (fronts s t e) ∙ sym (cut_long t b.0))

pub cut_front : (s t : List ℕ) → take 1001 s ≡ take 1001 t → cut_text s ≡ cut_text t
cut_front s t e = by_length s t e (leb_tells (length s) 1000) (leb_tells (length t) 1000)
