-- An identifier that grows by one byte, as the code has it.
use Rattle.std.proofs.Common.{◌≡◌, ℕ, ◌+◌, ◌-◌, ◌<◌, ◌≤◌, Bool, true, false, cond, ltb, List, [], ◌∷◌, ◌++◌, length, take, drop, get_or, Some, None, refl, ap, ◌∙◌, arith, slice_range}
use Rattle.std.proofs.lemmas.List.{take_more, get_or-drop, length-take-le, length-drop}
use Rattle.std.proofs.Common.{◌⊎◌, inl, inr}
use Rattle.hb_lex.specs.declared.class.Class.{Class}
use Rattle.hb_lex.specs.declared.class.Class.TheVariants.{Alpha, Digit, Prime}
use Rattle.hb_lex.specs.declared.state.State.{State}
use Rattle.hb_lex.specs.declared.state.State.TheVariants.{Word, Second}
use Rattle.hb_lex.specs.Letters.{letter}
use Rattle.hb_lex.specs.Text.{Rules}
use Rattle.hb_lex.specs.declared.token.Token.{Token}
use Rattle.hb_lex.specs.Machine.{at, grown, in_word, in_second, after_word, after_second, after_word_point}
use Rattle.hb_lex.specs.Views.{doing, reading, IsByteOrEnd}

-- the bytes from f to n, and one more
pub slice_more : (xs : List ℕ) (f n : ℕ) → f ≤ n → n < length xs
    → slice_range xs f (n + 1) ≡ slice_range xs f n ++ (get_or xs n 0 ∷ [])
slice_more xs f n l m =
    let e : n + 1 - f ≡ (n - f) + 1 = omega arith in
    let k : f + (n - f) ≡ n = omega arith in
    let h : n - f < length (drop f xs) = omega (arith, length-drop f xs) in
    rw e (take_more (drop f xs) (n - f) 0 h
    ∙ ap (λ b. take (n - f) (drop f xs) ++ (b ∷ [])) (get_or-drop f xs (n - f) 0 ∙ ap (λ i. get_or xs i 0) k))

pub length-slice : (xs : List ℕ) (f n : ℕ) → f ≤ n → n ≤ length xs → length (slice_range xs f n) ≡ n - f
length-slice xs f n l m = length-take-le (n - f) (drop f xs) (omega (arith, length-drop f xs))

-- the test of the room, and what it leads to
pub grown_view : (bytes : List ℕ) (n : ℕ) (ts : List Token) (s : State) (t : Bool)
    → reading bytes n ts (cond t (Some s) None) ≡ grown t (at ts (doing bytes n s))
grown_view bytes n ts s true = refl
grown_view bytes n ts s false = refl

-- the identifiers' bytes
abbrev pub IsPartClass : Class → Type 0
IsPartClass c = (c ≡ Alpha) ⊎ ((c ≡ Digit) ⊎ (c ≡ Prime))

pub part_inside : (len n : ℕ) (c : Class) → IsByteOrEnd len n c → IsPartClass c → n < len
part_inside len n c (inl l) p = l
part_inside len n c (inr (e, b)) (inl p) = absurd (cc)
part_inside len n c (inr (e, b)) (inr (inl p)) = absurd (cc)
part_inside len n c (inr (e, b)) (inr (inr p)) = absurd (cc)

pub word_grows : (r : Rules) (bytes : List ℕ) (ts : List Token) (f n : ℕ) (c : Class)
    → IsByteOrEnd (length bytes) n c → f ≤ n → IsPartClass c
    → reading bytes (n + 1) ts (cond (ltb (n - f) r.longest) (Some (Word f)) None)
    ≡ after_word r ts f (slice_range bytes f n) n (letter c (get_or bytes n 0))
word_grows r bytes ts f n c i l p =
    let m = part_inside (length bytes) n c i p in
    let room : reading bytes (n + 1) ts (cond (ltb (n - f) r.longest) (Some (Word f)) None)
    ≡ grown (ltb (length (slice_range bytes f n)) r.longest) (at ts (in_word f (slice_range bytes f n ++ (get_or bytes n 0 ∷ []))))
    = rw (length-slice bytes f n l (omega arith)) (rw (← slice_more bytes f n l m) (grown_view bytes (n + 1) ts (Word f) (ltb (n - f) r.longest))) in
    elim p [ inl e ↦ rw e room | inr q ↦ elim q [ inl e ↦ rw e room | inr e ↦ rw e room ] ]

pub second_grows : (r : Rules) (bytes : List ℕ) (ts : List Token) (f s n : ℕ) (c : Class)
    → IsByteOrEnd (length bytes) n c → s ≤ n → IsPartClass c
    → reading bytes (n + 1) ts (cond (ltb (n - s) r.longest) (Some (Second f s)) None)
    ≡ after_second r ts f (slice_range bytes s n) n (letter c (get_or bytes n 0))
second_grows r bytes ts f s n c i l p =
    let m = part_inside (length bytes) n c i p in
    let room : reading bytes (n + 1) ts (cond (ltb (n - s) r.longest) (Some (Second f s)) None)
    ≡ grown (ltb (length (slice_range bytes s n)) r.longest) (at ts (in_second f (slice_range bytes s n ++ (get_or bytes n 0 ∷ []))))
    = rw (length-slice bytes s n l (omega arith)) (rw (← slice_more bytes s n l m) (grown_view bytes (n + 1) ts (Second f s) (ltb (n - s) r.longest))) in
    elim p [ inl e ↦ rw e room | inr q ↦ elim q [ inl e ↦ rw e room | inr e ↦ rw e room ] ]

-- a first byte
pub slice_one : (xs : List ℕ) (n : ℕ) → n < length xs → slice_range xs n (n + 1) ≡ get_or xs n 0 ∷ []
slice_one xs n l =
    slice_more xs n n (omega arith) l
    ∙ ap (λ ys. ys ++ (get_or xs n 0 ∷ [])) (let e : n - n ≡ 0 = omega arith in ap (λ i. take i (drop n xs)) e)

pub second_begins : (r : Rules) (bytes : List ℕ) (ts : List Token) (f p n : ℕ) (c : Class)
    → IsByteOrEnd (length bytes) n c → c ≡ Alpha
    → reading bytes (n + 1) ts (cond (ltb (n - n) r.longest) (Some (Second f n)) None)
    ≡ after_word_point r ts f p n (letter c (get_or bytes n 0))
second_begins r bytes ts f p n c i e =
    let m = part_inside (length bytes) n c i (inl e) in
    let z : n - n ≡ 0 = omega arith in
    rw e (rw z (rw (← slice_one bytes n m) (grown_view bytes (n + 1) ts (Second f n) (ltb 0 r.longest))))
