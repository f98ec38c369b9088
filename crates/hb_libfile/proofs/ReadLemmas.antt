-- Things that are read one after another.
use Rattle.std.proofs.Common.{◌≡◌, Bool, ℕ, ◌+◌, length, length-append, List, [], ◌∷◌, ◌++◌, map, refl, ap, sym, ◌∙◌, append_assoc, append-nil}
use Rattle.std.proofs.lemmas.List.{length-map}
use Rattle.hb_env.specs.declared.entry.Entry.{Entry}
use Rattle.hb_env.specs.declared.entry.Places.{Places}
use Rattle.hb_libfile.specs.Format.{each, mark_bytes, number, texts_bytes, entries_bytes, library_bytes}
use Rattle.hb_libfile.specs.Places.{Extends}

pub each_more : {X : Type 0} (f : X → List ℕ) (xs : List X) (x : X) → each f (xs ++ x ∷ []) ≡ each f xs ++ f x
each_more f [] x = append-nil (f x)
each_more f (y ∷ ys) x = ap (λ l. f y ++ l) (each_more f ys x) ∙ sym (append_assoc (f y) (each f ys) (f x))

-- one thing more was read
pub read_more : {X : Type 0} (f : X → List ℕ) (xs ys : List X) (x : X) (r s t : List ℕ)
    → ys ≡ xs ++ x ∷ [] → r ≡ each f xs ++ s → s ≡ f x ++ t → r ≡ each f ys ++ t
read_more f xs ys x r s t e h k =
    h ∙ ap (λ l. each f xs ++ l) k ∙ sym (append_assoc (each f xs) (f x) t) ∙ ap (λ l. l ++ t) (sym (each_more f xs x) ∙ ap (each f) (sym e))

map_more : {X Y : Type 0} (g : X → Y) (xs : List X) (x : X) → map g (xs ++ x ∷ []) ≡ map g xs ++ g x ∷ []
map_more g [] x = refl
map_more g (y ∷ ys) x = ap (λ l. g y ∷ l) (map_more g ys x)

pub read_more_as : {X Y : Type 0} (f : Y → List ℕ) (g : X → Y) (xs ys : List X) (x : X) (r s t : List ℕ)
    → ys ≡ xs ++ x ∷ [] → r ≡ each f (map g xs) ++ s → s ≡ f (g x) ++ t → r ≡ each f (map g ys) ++ t
read_more_as f g xs ys x r s t e h k = read_more f (map g xs) (map g ys) (g x) r s t (ap (map g) e ∙ map_more g xs x) h k

-- two things were read
pub read_both : (a b r s t : List ℕ) → r ≡ a ++ s → s ≡ b ++ t → r ≡ (a ++ b) ++ t
read_both a b r s t h k = h ∙ ap (λ l. a ++ l) k ∙ sym (append_assoc a b t)

pub extends_more : (N M L : List (List ℕ)) (t : List ℕ) → Extends N M → L ≡ M ++ t ∷ [] → Extends N L
extends_more N M L t e f = (e.0 ++ t ∷ [], f ∙ ap (λ l. l ++ t ∷ []) e.1 ∙ append_assoc N e.0 (t ∷ []))

pub length_more : {X : Type 0} (xs ys : List X) (x : X) (n : ℕ) → ys ≡ xs ++ x ∷ [] → length xs ≡ n → length ys ≡ n + 1
length_more xs ys x n e h = ap length e ∙ length-append xs (x ∷ []) ∙ ap (λ m. m + 1) h

-- a whole library was read
pub library_read : (b b' : Bool) (N : List (List ℕ)) (es : List (Entry × Places)) (r s t u : List ℕ)
    → r ≡ mark_bytes b ++ s → s ≡ (number (length N) ++ texts_bytes N) ++ t
    → t ≡ (number (length es) ++ entries_bytes b' (map (λ p. p.0) es)) ++ u → b' ≡ b → u ≡ []
    → r ≡ library_bytes b N (map (λ p. p.0) es)
library_read b b' N es r s t u m n e v last =
    let table : List ℕ = number (length N) ++ texts_bytes N in
    let body : Bool → ℕ → List ℕ = λ (c : Bool) (k : ℕ). number k ++ entries_bytes c (map (λ (p : Entry × Places). p.0) es) in
    let whole : t ≡ body b (length (map (λ (p : Entry × Places). p.0) es)) =
    e ∙ ap (λ l. body b' (length es) ++ l) last ∙ append-nil (body b' (length es)) ∙ ap (λ c. body c (length es)) v ∙ ap (body b) (sym (length-map es (λ p. p.0))) in
    m ∙ ap (λ l. mark_bytes b ++ l) (n ∙ ap (λ l. table ++ l) whole)
