-- Numbers of texts in lists that go on.
use Rattle.std.proofs.Common.{◌≡◌, ℕ, zero, suc, ◌+◌, ◌∙◌, refl, sym, ap, Bool, true, false, cond, not, if◌then◌else◌, List, [], ◌∷◌, ◌++◌, append-nil, append_assoc, Some, slice_get, arith, ◌<◌, length, map, take, get_or}
use Rattle.std.proofs.lemmas.List.{map-append, map_more}
use Rattle.hb_base.specs.declared.name_id.NameId.{NameId}
use Rattle.std.specs.Str.{bytes_eq}
use Rattle.std.proofs.lemmas.Slice.Eq.{bytes_eq-Decides}
use Rattle.hb_base.specs.Names.{is_named, with_name, NumbersAreUnique}
use Rattle.hb_generated.specs.Names.{text_of, number, followed, between}
use Rattle.hb_generated.specs.Session.{IsPrefix}

pub same_prefix : (A : List (List ℕ)) → IsPrefix A A
same_prefix A = ([], sym (append-nil A))

pub prefix_trans : (A B C : List (List ℕ)) → IsPrefix A B → IsPrefix B C → IsPrefix A C
prefix_trans A B C p q = (p.0 ++ q.0, q.1 ∙ ap (λ l. l ++ q.0) p.1 ∙ append_assoc A p.0 q.0)

pub named_prefix : (N : List (List ℕ)) (text : List ℕ) → IsPrefix N (with_name N text)
named_prefix N text = by (is_named N text)
  where
    by : (b : Bool) → IsPrefix N (if b then N else N ++ text ∷ [])
    by true = same_prefix N
    by false = (text ∷ [], refl)

pub number_at : (N more : List (List ℕ)) (text : List ℕ) (id : ℕ) → NumbersAreUnique N → slice_get N id ≡ Some text → number (N ++ more) text ≡ id
number_at [] more text id u h = absurd (cc)
number_at (n ∷ N) more text zero u h =
    let e : text ≡ n = cc in
    ap (λ b. cond (not b) (1 + number (N ++ more) text) 0) ((bytes_eq-Decides text n).1 e)
number_at (n ∷ N) more text (suc id) u h = by (bytes_eq text n) refl (λ v. number_at N more text id v h)
  where
    tail : NumbersAreUnique N
    tail t i j p q = let e : suc i ≡ suc j = u t (suc i) (suc j) p q in omega (arith, e)

    by : (b : Bool) → bytes_eq text n ≡ b → (NumbersAreUnique N → number (N ++ more) text ≡ id) → cond (not (bytes_eq text n)) (1 + number (N ++ more) text) 0 ≡ suc id
    by true t rest =
        let e : text ≡ n = (bytes_eq-Decides text n).0 t in
        let f : zero ≡ suc id = u text zero (suc id) (ap Some (sym e)) h in
        absurd (omega (arith, f))
    by false t rest = ap (λ b. cond (not b) (1 + number (N ++ more) text) 0) t ∙ ap (λ k. 1 + k) (rest tail) ∙ (let f : 1 + id ≡ suc id = omega arith in f)

pub text_stays : (N more : List (List ℕ)) (n : ℕ) (t : List ℕ) → slice_get N n ≡ Some t → text_of (N ++ more) n ≡ t
text_stays [] more n t h = absurd (cc)
text_stays (x ∷ N) more zero t h = cc
text_stays (x ∷ N) more (suc n) t h = text_stays N more n t h

-- the number of a text that goes last in B holds in each C that goes on from there
pub number_in : (B C : List (List ℕ)) (text : List ℕ) (id : ℕ) → NumbersAreUnique B → slice_get B id ≡ Some text → IsPrefix B C → number C text ≡ id
number_in B C text id u h p = ap (λ l. number l text) p.1 ∙ number_at B p.0 text id u h

pub text_in : (A C : List (List ℕ)) (n : ℕ) (t : List ℕ) → slice_get A n ≡ Some t → IsPrefix A C → text_of C n ≡ t
text_in A C n t h p = ap (λ l. text_of l n) p.1 ∙ text_stays A p.0 n t h

pub followed_is : (A B C : List (List ℕ)) (name id : ℕ) (t word text : List ℕ) → slice_get A name ≡ Some t → IsPrefix A B → NumbersAreUnique B → slice_get B id ≡ Some text → text ≡ t ++ word → IsPrefix B C → followed C name word ≡ id
followed_is A B C name id t word text h p u g e q =
    ap (λ x. number C (x ++ word)) (text_in A C name t h (prefix_trans A B C p q)) ∙ ap (number C) (sym e) ∙ number_in B C text id u g q

pub between_is : (A B C : List (List ℕ)) (a b id : ℕ) (t s word text : List ℕ) → slice_get A a ≡ Some t → slice_get A b ≡ Some s → IsPrefix A B → NumbersAreUnique B → slice_get B id ≡ Some text → text ≡ t ++ word ++ s → IsPrefix B C → between C a word b ≡ id
between_is A B C a b id t s word text h k p u g e q =
    ap (λ x. number C (x ++ word ++ text_of C b)) (text_in A C a t h (prefix_trans A B C p q))
    ∙ ap (λ x. number C (t ++ word ++ x)) (text_in A C b s k (prefix_trans A B C p q)) ∙ ap (number C) (sym e) ∙ number_in B C text id u g q

pub field_names_turn : (f : ℕ → ℕ) (ms : List ℕ) (done : List NameId) (i : ℕ) (n : NameId) → i < length ms → n.0 ≡ f (get_or ms i 0) → map (λ x. x.0) done ≡ map f (take i ms) → map (λ x. x.0) (done ++ n ∷ []) ≡ map f (take (i + 1) ms)
field_names_turn f ms done i n lt e is =
    map-append (λ (x : NameId). x.0) done (n ∷ []) ∙ ap (λ l. l ++ n.0 ∷ []) is ∙ ap (λ k. map f (take i ms) ++ k ∷ []) e ∙ sym (map_more f ms i 0 lt)
