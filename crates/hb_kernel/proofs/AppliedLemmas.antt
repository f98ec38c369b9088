-- Type formers with their arguments.
use Rattle.std.proofs.Common.{◌≡◌, ◌≢◌, ℕ, ◌+◌, ◌-◌, ◌≤◌, List, [], ◌∷◌, ◌++◌, length, sym, ap, ◌∙◌, arith, length-append}
use Rattle.std.specs.Prelude.{Some, slice_get}
use Rattle.std.proofs.lemmas.List.{map-append}
use Rattle.hb_tree.specs.Tree.{Tree, app, apply, head_of, args_of, loose}
use Rattle.hb_term.specs.Meaning.{tree}
use Rattle.hb_term.specs.declared.term.Term.{Term}
use Rattle.hb_calculus.specs.Declarations.{Decl, Record, record_in}
use Rattle.hb_calculus.specs.Telescopes.{former}
use Rattle.hb_calculus.specs.Inference.{IsRecord}
use Rattle.hb_calculus.proofs.Spines.{apply-append, head-apply, args-apply}
use Rattle.hb_env.specs.Plain.{trees}
use Rattle.hb_kernel.specs.Applied.{IsApplied, AreLoose}

pub applied-more : (t f a : Tree) (r n : ℕ) (vs : List Term) (x : Term) → t ≡ app f a → f ≡ apply (former r) (trees vs) → length (trees vs) ≡ n - 1 → n ≢ 0 → tree x ≡ a → (t ≡ apply (former r) (trees (vs ++ x ∷ []))) × (length (trees (vs ++ x ∷ [])) ≡ n)
applied-more t f a r n vs x e h l z k =
    let s : trees (vs ++ x ∷ []) ≡ trees vs ++ tree x ∷ [] = map-append tree vs (x ∷ []) in
    let p : apply (former r) (trees vs ++ tree x ∷ []) ≡ app (apply (former r) (trees vs)) (tree x) = apply-append (former r) (trees vs) (tree x ∷ []) in
    let q = length-append (trees vs) (tree x ∷ []) in (
      e ∙ ap (λ g. app g a) h ∙ ap (λ y. app (apply (former r) (trees vs)) y) (sym k) ∙ sym p ∙ ap (apply (former r)) (sym s),
      ap length s ∙ q ∙ (let m : length (trees vs) + 1 ≡ n = omega arith in m),
    )

-- what isn't the former with so many arguments isn't the record with all its parameters
pub not-applied : (E : List Decl) (r n : ℕ) (t : Tree) → ((R : Record) → record_in (slice_get E r) ≡ Some R → n ≡ length R.params) → ¬ IsApplied r n t → ¬ IsRecord E r t
not-applied E r n t c h k =
    let R = k.0 in
    let qs = k.1 in
    h (
      ap head_of k.3 ∙ head-apply (former r) qs,
      ap (λ x. length (args_of x)) k.3 ∙ ap length (args-apply (former r) qs) ∙ k.4 ∙ sym (c R k.2),
    )

-- the arguments are in the scope of the whole
pub applied-loose : (m : ℕ) (f : Tree) (xs : List Tree) → loose (apply f xs) ≤ m → (loose f ≤ m) × AreLoose m xs
applied-loose m f [] h = (h, tt)
applied-loose m f (x ∷ xs) h =
    let p = applied-loose m (app f x) xs h in
    let q = p.0 in
    (omega arith, (omega arith, p.1))
