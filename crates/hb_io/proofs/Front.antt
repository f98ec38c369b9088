-- A file that is read piece by piece.
use Rattle.std.proofs.Common.{◌≡◌, ◌≤◌, ◌+◌, ◌++◌, ℕ, true, List, [], Ok, length, take, drop, ap, sym, ◌∙◌, arith, length-append}
use Rattle.std.proofs.Math.Seq.{take-add}
use Rattle.std.proofs.lemmas.List.{length-take}
use Rattle.hb_io.specs.Told.{Told, Untold, Missing, Holds, ReadGives, IsPiece}
use Rattle.hb_io.specs.Whole.{IsFront, ReadsOn}

-- what has been read so far is a front of the file; no file has changed and no count has fallen
pub record ReadSoFar (file file' : List ℕ → Told) (faults faults' absents absents' : ℕ) (name front : List ℕ) : Type 0 where
  pub here : IsFront (file name) front
  pub told_of : (file name ≡ Missing) → front ≡ []
  pub same : (n : List ℕ) → file' n ≡ file n
  pub faults_later : faults ≤ faults'
  pub absents_later : absents ≤ absents'

-- a piece that is the file's goes behind a front
front_grows : (bytes front front' buffer : List ℕ) (count : ℕ) → IsPiece bytes (length front) count buffer → front' ≡ front ++ take count buffer → front ≡ take (length front) bytes → front' ≡ take (length front') bytes
front_grows bytes front front' buffer count read behind is_front =
    let piece : front' ≡ front ++ take count (drop (length front) bytes) = behind ∙ ap (λ p. front ++ p) read.piece in
    let whole : front' ≡ take (length front + count) bytes = piece ∙ ap (λ p. p ++ take count (drop (length front) bytes)) is_front ∙ sym (take-add (length front) count bytes) in
    let fits : count ≤ length (drop (length front) bytes) = read.fits in
    let len : length front' ≡ length front + count = omega (arith, ap length piece, length-append front (take count (drop (length front) bytes)), length-take count (drop (length front) bytes)) in
    rw len whole

-- one read that found bytes, and put them behind
pub went_on : (told : Told) (front front' buffer : List ℕ) (place count : ℕ) → place ≡ length front → (count ≡ 0 → ⊥) → count ≤ length buffer → ReadGives told place (Ok count) buffer → front' ≡ front ++ take count buffer → ReadsOn told front front' (Ok true)
went_on Untold front front' buffer place count at some within given behind = record {
  still = λ h. tt;
  longer = λ e. omega (arith, ap length behind, length-append front (take count buffer), length-take count buffer);
  told_of = λ e f. absurd (cc);
  same = λ e. absurd (cc);
  ended = λ e h. tt;
  absent = λ bytes e f. absurd (cc);
}
went_on Missing front front' buffer place count at some within given behind = absurd given
went_on (Holds held) front front' buffer place count at some within given behind = record {
  still = λ h. front_grows held front front' buffer count (rw at at given) behind h;
  longer = λ e. omega (arith, ap length behind, length-append front (take count buffer), length-take count buffer);
  told_of = λ e f. absurd (cc);
  same = λ e. absurd (cc);
  ended = λ e h. absurd (cc);
  absent = λ bytes e f. absurd (cc);
}
