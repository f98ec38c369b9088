-- Names that stand at two places.
use Rattle.std.proofs.Common.{◌≡◌, ℕ, zero, suc, ◌<◌, ◌⊎◌, inl, inr, List, [], ◌∷◌, ◌++◌, length, map, take, Some, slice_get, slice_index_or, get_or, refl, sym, ap, subst, ◌∙◌, append_assoc, arith}
use Rattle.std.proofs.lemmas.List.{append-nil}
use Rattle.std.proofs.Math.Seq.{take-length}
use Rattle.hb_base.specs.declared.name_id.NameId.{NameId}
use Rattle.hb_calculus.specs.Declarations as calculus
use Rattle.hb_calculus.specs.Declarations.{names, names_of, IsIn}
use Rattle.hb_env.specs.declared.decl.Decl.{Decl}
use Rattle.hb_env.specs.Plain.{plain, plains}
use Rattle.hb_env.proofs.NameLemmas.{in_at, in_left, in_right, names_push}
use Rattle.hb_hier.specs.Hierarchy.{Hierarchy}
use Rattle.hb_step.specs.Naming.{IsTaken, IsTwice, IsUnfit}

-- a name that is made
pub is_made : (ms : List NameId) (i : ℕ) (d : NameId) → i < length ms → IsIn (get_or ms i d).0 (map (λ m. m.0) ms)
is_made [] i d l = absurd (omega arith)
is_made (m ∷ ms) zero d l = inl refl
is_made (m ∷ ms) (suc i) d l = inr (is_made ms i d (omega arith))

-- a name of a declaration is one of all
in_one :
    (ds : List Decl) (i n : ℕ) (x : Decl) → i < length ds → x ≡ slice_index_or ds i x → IsIn n (names_of (plain x))
    → IsIn n (names (plains ds))
in_one [] i n x l e h = absurd (omega arith)
in_one (d ∷ ds) zero n x l e h =
    in_left n (names_of (plain d)) (names (plains ds)) (subst (λ (y : Decl). IsIn n (names_of (plain y))) e h)
in_one (d ∷ ds) (suc i) n x l e h = in_right n (names_of (plain d)) (names (plains ds)) (in_one ds i n x (omega arith) e h)

pub in_all :
    (ds : List Decl) (i k n : ℕ) (x : Decl) → i < length ds → x ≡ slice_index_or ds i x → k ≡ length (names_of (plain x))
    → IsIn n (take k (names_of (plain x))) → IsIn n (names (plains ds))
in_all ds i k n x l e f h = in_one ds i n x l e (rw (f, take-length (names_of (plain x))) at h)

-- a name that stands at a place and before it
pub twice_at : (ns : List ℕ) (i n : ℕ) → slice_get ns i ≡ Some n → IsIn n (take i ns) → IsTwice n ns
twice_at [] i n e h = absurd (cc)
twice_at (m ∷ ms) zero n e h = absurd h
twice_at (m ∷ ms) (suc i) n e (inl p) = inl (p, in_at ms i n e)
twice_at (m ∷ ms) (suc i) n e (inr p) = inr (twice_at ms i n e p)

pub twice_apart : (xs ys : List ℕ) (n : ℕ) → IsIn n xs → IsIn n ys → IsTwice n (xs ++ ys)
twice_apart [] ys n p q = absurd p
twice_apart (x ∷ xs) ys n (inl e) q = inl (e, in_right n xs ys q)
twice_apart (x ∷ xs) ys n (inr p) q = inr (twice_apart xs ys n p q)

pub twice_right : (xs ys : List ℕ) (n : ℕ) → IsTwice n ys → IsTwice n (xs ++ ys)
twice_right [] ys n h = h
twice_right (x ∷ xs) ys n h = inr (twice_right xs ys n h)

twice_left : (xs ys : List ℕ) (n : ℕ) → IsTwice n xs → IsTwice n (xs ++ ys)
twice_left [] ys n h = absurd h
twice_left (x ∷ xs) ys n (inl p) = inl (p.0, in_left n xs ys p.1)
twice_left (x ∷ xs) ys n (inr p) = inr (twice_left xs ys n p)

-- the names of the first declarations stand before the others
first_names :
    (ds : List Decl) (i : ℕ) (x : Decl) → i < length ds → x ≡ slice_index_or ds i x
    → (rest : List ℕ) × (names (plains ds) ≡ names (plains (take i ds) ++ plain x ∷ []) ++ rest)
first_names [] i x l e = absurd (omega arith)
first_names (d ∷ ds) zero x l e =
    (names (plains ds), ap (λ y. names_of (plain y) ++ names (plains ds)) (sym e) ∙ ap (λ k. k ++ names (plains ds)) (sym (append-nil (names_of (plain x)))))
first_names (d ∷ ds) (suc i) x l e =
    let r = first_names ds i x (omega arith) e in
    (r.0, ap (λ k. names_of (plain d) ++ k) r.1 ∙ sym (append_assoc (names_of (plain d)) (names (plains (take i ds) ++ plain x ∷ [])) r.0))

-- what can't be declared among the first declarations can't among all
pub unfit_in :
    (E : List calculus.Decl) (h : Hierarchy) (made : List ℕ) (ds : List Decl) (i : ℕ) (x : Decl) (n : NameId)
    → i < length ds → x ≡ slice_index_or ds i x → IsUnfit E h made (plains (take i ds) ++ plain x ∷ []) n
    → IsUnfit E h made (plains ds) n
unfit_in E h made ds i x n l e p =
    let r = first_names ds i x l e in
    let ns = names (plains (take i ds) ++ plain x ∷ []) in
    record {
      theirs = rw r.1 (in_left n.0 ns r.0 p.theirs);
      cause = elim p.cause [
        | inl a ↦ inl a
        | inr b ↦ elim b [
          | inl c ↦ inr (inl c)
          | inr d ↦ inr (inr (rw r.1 (twice_left ns r.0 n.0 d)))
        ]
      ];
    }

-- why name i of a declaration that stands after others can't be declared
pub unfit_last :
    (E : List calculus.Decl) (h : Hierarchy) (made : List ℕ) (ds : List calculus.Decl) (d : calculus.Decl) (i : ℕ) (n : NameId)
    → slice_get (names_of d) i ≡ Some n.0
    → IsTaken E h n ⊎ IsIn n.0 made ⊎ IsIn n.0 (take i (names_of d)) ⊎ IsIn n.0 (names ds)
    → IsUnfit E h made (ds ++ d ∷ []) n
unfit_last E h made ds d i n e p =
    let ns = names_of d in
    let all : names (ds ++ d ∷ []) ≡ names ds ++ ns = names_push ds d in
    let here : IsIn n.0 ns = in_at ns i n.0 e in
    record {
      theirs = rw all (in_right n.0 (names ds) ns here);
      cause = elim p [
        | inl a ↦ inl a
        | inr b ↦ elim b [
          | inl c ↦ inr (inl c)
          | inr d ↦ elim d [
            | inl f ↦ inr (inr (rw all (twice_right (names ds) ns n.0 (twice_at ns i n.0 e f))))
            | inr g ↦ inr (inr (rw all (twice_apart (names ds) ns n.0 g here)))
          ]
        ]
      ];
    }
