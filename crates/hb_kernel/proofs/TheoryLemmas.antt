-- Theories: what stays well formed, and the names of contexts.
use Rattle.std.proofs.Common.{◌≡◌, ◌∙◌, ℕ, zero, suc, ◌+◌, List, [], ◌∷◌, ◌++◌, length, take, drop, sym, subst, ap, arith, inl, append_assoc}
use Rattle.std.specs.Prelude.{Result, Ok, Err, OnOk, OnErr, Some, slice_get}
use Rattle.std.proofs.lemmas.Option.{none-some}
use Rattle.std.proofs.lemmas.List.{take-append-drop}
use Rattle.std.proofs.Math.ListN.{length-map}
use Rattle.hb_tree.specs.Tree.{Tree}
use Rattle.hb_tree.specs.declared.leaves.ConstId.{ConstId}
use Rattle.hb_term.specs.Meaning.{tree}
use Rattle.hb_term.specs.declared.term.Term.{Term}
use Rattle.hb_calculus.specs.Declarations.{Decl, names, names_of, IsIn, Distinct}
use Rattle.hb_calculus.specs.Typing.{extended, IsTyped, WellFormed}
use Rattle.hb_calculus.proofs.Options.{Some-injective}
use Rattle.hb_calculus.proofs.WellScoped.{well_formed-push}
use Rattle.hb_env.specs.declared.error.EnvRefused.{EnvRefused}
use Rattle.hb_env.specs.Naming.{IsFirstRepeated}
use Rattle.hb_env.specs.Plain.{trees}
use Rattle.hb_env.proofs.NameLemmas.{names_push, distinct_apart}
use Rattle.hb_kernel.specs.Scoping.{IsKnown}

pub pushed-well_formed : (E F : List Decl) (d : Decl) (r : Result ConstId EnvRefused) → OnOk r (F ≡ E ++ d ∷ []) → OnErr r (F ≡ E) → WellFormed E → IsTyped E d → Distinct (names E ++ names_of d) → WellFormed F
pushed-well_formed E F d (Ok c) h g w t n =
    subst (λ X. WellFormed X) (sym h) (well_formed-push E d w t (subst (λ ns. Distinct ns) (sym (names_push E d)) n))
pushed-well_formed E F d (Err e) h g w t n = subst (λ X. WellFormed X) (sym g) w

pub on-ok : {T X : Type 0} (r : Result T X) (P : Type 0) → P → OnOk r P
on-ok (Ok x) P p = p
on-ok (Err e) P p = tt

in-behind : (ns : List ℕ) (at n : ℕ) → slice_get ns at ≡ Some n → IsIn n (drop at ns)
in-behind [] at n e = absurd (none-some n e)
in-behind (m ∷ ns) zero n e = inl (sym (Some-injective m n e))
in-behind (m ∷ ns) (suc at) n e = in-behind ns at n e

-- where all names differ, none is repeated
pub not-repeated : (held ns : List ℕ) (n : ℕ) → Distinct (held ++ ns) → IsFirstRepeated held ns n → ⊥
not-repeated held ns n d h =
    let e : (held ++ take h.at ns) ++ drop h.at ns ≡ held ++ ns = append_assoc held (take h.at ns) (drop h.at ns) ∙ ap (λ xs. held ++ xs) (take-append-drop h.at ns) in
    distinct_apart (held ++ take h.at ns) (drop h.at ns) n (subst (λ xs. Distinct xs) (sym e) d) (in-behind ns h.at n h.stands) h.repeated

length-extended : (G ts : List Tree) → length (extended G ts) ≡ length G + length ts
length-extended G [] = omega arith
length-extended G (t ∷ ts) = let h = length-extended (t ∷ G) ts in omega arith

pub known-here : (E : List Decl) (n : ℕ) (xs : List Term) (t : Tree) → n ≡ length xs → IsKnown E n t → IsKnown E (length (extended [] (trees xs))) t
known-here E n xs t e h =
    let a = length-extended [] (trees xs) in
    let b = length-map xs tree in
    subst (λ k. IsKnown E k t) (let q : n ≡ length (extended [] (trees xs)) = omega arith in q) h
