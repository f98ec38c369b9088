-- Candidates as they are found along the order, and how many bring something.
use Rattle.std.proofs.Common.{◌≡◌, ℕ, ◌+◌, ◌≤◌, Bool, true, false, cond, List, length, take, Some, arith, ◌∙◌, ap, refl}
use Rattle.std.specs.Prelude.{All, count_by, slice_get}
use Rattle.std.proofs.lemmas.List.Sums.{count_by_more_yes, count_by_more_no, sum_by-take-le}
use Rattle.std.proofs.lemmas.Option.{slice_get_within, get_or_from_slice_get}
use Rattle.hb_sets.specs.Set.{Set}
use Rattle.hb_hier.specs.declared.known.Known.{Known}
use Rattle.hb_hier.specs.Hierarchy.{Hierarchy}
use Rattle.hb_howto.specs.declared.candidate.Candidate.{Candidate}
use Rattle.hb_howto.specs.declared.error.HowtoRefused.{HowtoRefused}
use Rattle.hb_howto.specs.declared.error.HowtoRefused.TheVariants.{TooMany, NoMemory}
use Rattle.hb_howto.specs.Ways.{brings, HowtoRefusal}
use Rattle.hb_howto.specs.Tried.{IsCandidate, AreFound, AddRefusal}

-- one place more
count-more : (p : Known → Bool) (ks : List Known) (at : ℕ) (k : Known) → slice_get ks at ≡ Some k → count_by p (take (at + 1) ks) ≡ count_by p (take at ks) + cond (p k) 1 0
count-more p ks at k found = by_test (p k) refl
  where
    by_test : (b : Bool) → p k ≡ b → count_by p (take (at + 1) ks) ≡ count_by p (take at ks) + cond b 1 0
    by_test true is =
        count_by_more_yes p ks at k (slice_get_within ks at k found) (ap p (get_or_from_slice_get ks at k k found) ∙ is)
    by_test false is =
        let same = count_by_more_no p ks at k (slice_get_within ks at k found) (ap p (get_or_from_slice_get ks at k k found) ∙ is) in
        omega (arith, same)

pub found-more : (h : Hierarchy) (given : Set) (at : ℕ) (k : Known) (cs more : List Candidate) → AreFound h given at cs → slice_get h.order at ≡ Some k → All (IsCandidate h) more → length more ≤ length cs + cond (brings h given k) 1 0 → AreFound h given (at + 1) more
found-more h given at k cs more found is each long =
    let step = count-more (brings h given) h.order at k is in
    record { each = each; counted = omega (arith, step, long, found.counted) }

pub too-many : (h : Hierarchy) (given : Set) (at : ℕ) (k : Known) (cs : List Candidate) (e : HowtoRefused) → AreFound h given at cs → slice_get h.order at ≡ Some k → AddRefusal (brings h given k) (length cs) e → HowtoRefusal h given e
too-many h given at k cs (TooMany count) found is (what, yes_, many) =
    let step = count-more (brings h given) h.order at k is in
    let one : ◌≡◌ {A = ℕ} (cond (brings h given k) 1 0) 1 = ap (λ b. cond b 1 0) yes_ in
    let all = sum_by-take-le (λ x. cond (brings h given x) 1 0) h.order (at + 1) in
    (what, omega (arith, step, one, all, many, found.counted))
too-many h given at k cs NoMemory found is why = tt
