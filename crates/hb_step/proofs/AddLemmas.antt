-- Declarations that are added one after another.
use Rattle.std.proofs.Common.{◌≡◌, ℕ, ◌+◌, ◌<◌, ◌≤◌, List, [], ◌∷◌, ◌++◌, length, take, drop, sym, ap, ◌∙◌, append_assoc, slice_index_or, arith}
use Rattle.std.proofs.lemmas.List.{append-nil, map_more, drop_more, length-append}
use Rattle.std.proofs.Math.Seq.{take-append_seam}
use Rattle.hb_calculus.specs.Budget.{Budget}
use Rattle.hb_calculus.specs.Declarations as calculus
use Rattle.hb_env.specs.declared.decl.Decl.{Decl}
use Rattle.hb_env.specs.declared.refusal.What.{What}
use Rattle.hb_env.specs.Plain.{plain, plains}
use Rattle.hb_step.specs.Adding.{AddFails, Stops, stops_here, stops_later}

-- the first i declarations were added to E, which gave F
pub record Added (L : Budget) (E F : List calculus.Decl) (ds : List Decl) (i : ℕ) : Type 0 where
  pub added : F ≡ E ++ plains (take i ds)
  pub stops : (w : What) → Stops L F (plains (drop i ds)) w → Stops L E (plains ds) w

pub begun : (L : Budget) (E : List calculus.Decl) (ds : List Decl) → Added L E E ds 0
begun L E ds = record { added = sym (append-nil E); stops = λ w s. s }

pub next :
    (L : Budget) (E F : List calculus.Decl) (ds : List Decl) (i : ℕ) (x : Decl) → i < length ds → x ≡ slice_index_or ds i x
    → Added L E F ds i → Added L E (F ++ plain x ∷ []) ds (i + 1)
next L E F ds i x l e p = record {
  added =
      rw p.added (append_assoc E (plains (take i ds)) (plain x ∷ []))
      ∙ ap (λ xs. E ++ (plains (take i ds) ++ plain xs ∷ [])) e
      ∙ ap (λ xs. E ++ xs) (sym (map_more plain ds i x l));
  stops = λ w s. p.stops w (rw (drop_more ds i x l, sym e) (stops_later s));
}

pub stopped :
    (L : Budget) (E F : List calculus.Decl) (ds : List Decl) (i : ℕ) (x : Decl) (w : What) → i < length ds
    → x ≡ slice_index_or ds i x → Added L E F ds i → AddFails F L (plain x) w → Stops L E (plains ds) w
stopped L E F ds i x w l e p f = p.stops w (rw (drop_more ds i x l, sym e) (stops_here f))

pub within : (L : Budget) (E F : List calculus.Decl) (ds : List Decl) (i : ℕ) → Added L E F ds i → length E ≤ length F
within L E F ds i p = let n = ap length p.added in let m = length-append E (plains (take i ds)) in omega (arith, n, m)

pub cut_back :
    (L : Budget) (E F : List calculus.Decl) (ds : List Decl) (i n : ℕ) → Added L E F ds i → n ≡ length E → take n F ≡ E
cut_back L E F ds i n p e = rw (e, p.added) (take-append_seam E (plains (take i ds)))
