-- Each list of tokens has an answer: that of the reader.
use Rattle.std.proofs.Common.{◌≡◌, ℕ, ◌+◌, ◌<◌, ◌⊎◌, inl, inr, List, [], ◌∷◌, ◌++◌, length, zero, suc, take as front_of, get_or, Option, Some, None, refl, ap, ◌∙◌, sym, subst, arith}
use Rattle.std.proofs.lemmas.List.{take_more, take_all}
use Rattle.std.proofs.lemmas.Bool.{cases_lt}
use Rattle.hb_raw.specs.Sentence.{Sentence}
use Rattle.hb_grammar.specs.declared.mark.Mark.{Mark}
use Rattle.hb_grammar.specs.declared.mark.Mark.TheVariants.{Other}
use Rattle.hb_grammar.specs.Leaf.{Sign, Leaf}
use Rattle.hb_grammar.specs.Machine.{State, begin, done, step, read}
use Rattle.hb_grammar.specs.Places.{Seen, seen, Most, IsWithin, nesting, argument_of, Reads, SyntaxAt, DeepAt, place_of, EachHasAnswer}
use Rattle.hb_grammar.proofs.Unique.{IsMoving}
use Rattle.hb_grammar.proofs.Way.{Came, came-none, came-more, came-reads, came-syntax, came-cut, came-deep, settled, settle}

abbrev Answer : Most → List Seen → Type 0
Answer most ts = ((cs : List Sentence) × Reads most ts cs) ⊎ (((at : ℕ) × SyntaxAt most ts at) ⊎ ((at : ℕ) × DeepAt most ts at))

settles_moving : (t : State) → IsMoving (settle t)
settles_moving (done c) = tt
settles_moving _ = tt

within : (most : Most) (l : Leaf) → IsWithin most l ⊎ (¬ (IsWithin most l))
within most l =
    elim (cases_lt most.nested (nesting l)) [
      | inl a ↦ inr (λ w. let x = w.0 in absurd (omega arith))
      | inr a ↦ elim (cases_lt most.applied (argument_of l)) [
        | inl b ↦ inr (λ w. let x = w.1 in absurd (omega arith))
        | inr b ↦ inl (a, b)
      ]
    ]

at_the_end : {most : Most} {ts : List Seen} {cs : List Sentence} (s : State) → IsMoving s → Came most ts cs s → Answer most ts
at_the_end {cs = cs} begin p c = inl (cs, came-reads c)
at_the_end (done c) p h = absurd p
at_the_end {ts = ts} _ p c = inr (inl (length ts, came-cut c refl))

any : Seen
any = seen Other (record { whole = record { 0 = 0 }; first = record { 0 = 0 }; value = 0; place = record { file = 0; from = 0; to = 0 } })

-- one token, by what the reader makes of it
after : {most : Most} {all : List Seen} {cs : List Sentence} {s : State} (i : ℕ) (m : Mark) (w : Sign) (o : Option State)
    → i < length all → get_or all i any ≡ seen m w → IsMoving s → Came most (front_of i all) cs s → step s m w ≡ o
    → ((ds : List Sentence) (t : State) → IsMoving t → Came most (front_of (i + 1) all) ds t → Answer most all)
    → Answer most all
after i m w None l g p c e k = inr (inl (i, came-syntax m w i any l g c p e))
after {most = most} {all = all} {cs = cs} {s = s} i m w (Some t) l g p c e k =
    elim (within most (read s m w)) [
      | inr over ↦ inr (inr (place_of (read s m w) i, came-deep m w t i any l g c e over))
      | inl fits ↦
          let q : front_of i all ++ (seen m w ∷ []) ≡ front_of (i + 1) all =
          sym (take_more all i any l ∙ ap (λ x. front_of i all ++ (x ∷ [])) g) in
          k (settled cs t) (settle t) (settles_moving t)
          (subst (λ (x : List Seen). Came most x (settled cs t) (settle t)) q (came-more m w t c e fits))
    ]

seen_again : (x : Seen) → (m : Mark) × (w : Sign) × (x ≡ seen m w)
seen_again (seen m w) = (m, w, refl)

from_here : (k i : ℕ) {most : Most} {all : List Seen} {cs : List Sentence} {s : State} → i + k ≡ length all
    → IsMoving s → Came most (front_of i all) cs s → Answer most all
from_here zero i {most = most} {all = all} {cs = cs} {s = s} e p c =
    at_the_end s p (subst (λ (x : List Seen). Came most x cs s) (take_all i all (omega arith)) c)
from_here (suc k) i {all = all} {s = s} e p c =
    let x = seen_again (get_or all i any) in
    after i x.0 x.1 (step s x.0 x.1) (omega arith) x.2 p c refl
    (λ ds t q d. from_here k (i + 1) (omega arith) q d)

pub each_has_answer : EachHasAnswer
each_has_answer most ts = from_here (length ts) 0 (omega arith) tt (came-none most)
