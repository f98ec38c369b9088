-- A piece that is written front by front.
use Rattle.std.proofs.Common.{◌≡◌, ◌≤◌, ◌+◌, ◌-◌, ◌++◌, ℕ, List, Option, None, Some, length, take, drop, refl, ap, sym, ◌∙◌, append_assoc, arith}
use Rattle.std.proofs.Math.Seq.{take-add}
use Rattle.std.proofs.lemmas.List.{take_rest, length-drop}
use Rattle.hb_io.specs.Told.{grown}

-- so many bytes of the piece have gone out, and the count of faults has not fallen
pub record Sent (before now : Option (List ℕ)) (faults faults' : ℕ) (piece : List ℕ) (place : ℕ) : Type 0 where
  pub within : place ≤ length piece
  pub sent : now ≡ grown before (take place piece)
  pub later : faults ≤ faults'

pub grown-grown : (before : Option (List ℕ)) (xs ys : List ℕ) → grown (grown before xs) ys ≡ grown before (xs ++ ys)
grown-grown None xs ys = refl
grown-grown (Some bytes) xs ys = ap Some (append_assoc bytes xs ys)

-- one more write: the first bytes of what was left have gone out behind
pub sent_more : (before now now' : Option (List ℕ)) (faults faults' faults'' : ℕ) (piece : List ℕ) (place count : ℕ) → Sent before now faults faults' piece place → count ≤ length piece - place → now' ≡ grown now (take count (take (length piece - place) (drop place piece))) → faults' ≤ faults'' → Sent before now' faults faults'' piece (place + count)
sent_more before now now' faults faults' faults'' piece place count so_far fits grew later =
    let front : take count (take (length piece - place) (drop place piece)) ≡ take count (drop place piece) = ap (take count) (take_rest piece place) in
    let both : grown now (take count (drop place piece)) ≡ grown before (take place piece ++ take count (drop place piece)) = ap (λ b. grown b (take count (drop place piece))) so_far.sent ∙ grown-grown before (take place piece) (take count (drop place piece)) in
    record {
      within = let w = so_far.within in omega arith;
      sent = grew ∙ ap (grown now) front ∙ both ∙ ap (grown before) (sym (take-add place count piece));
      later = let l = so_far.later in omega arith;
    }

-- what fits into the rest of a piece
pub length-left : (piece : List ℕ) (place count : ℕ) → count ≤ length (take (length piece - place) (drop place piece)) → count ≤ length piece - place
length-left piece place count h =
    omega (arith, ap length (take_rest piece place), length-drop place piece)
