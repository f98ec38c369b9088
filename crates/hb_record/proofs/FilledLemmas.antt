-- Values put in one after another.
use Rattle.std.proofs.Common.{◌≡◌, ℕ, zero, suc, ◌+◌, ◌-◌, ◌<◌, List, ◌∷◌, ◌++◌, length, map, drop, get_or, Option, Some, slice_get, refl, ap, sym, subst, ◌∙◌, arith}
use Rattle.std.proofs.lemmas.List.{drop_more, length-append, length-drop}
use Rattle.std.proofs.Math.ListN.{length-map}
use Rattle.hb_term.specs.declared.term.Term.{Term}
use Rattle.hb_term.specs.Meaning.{tree}
use Rattle.hb_tree.specs.Tree.{Tree, proj, subst_at}
use Rattle.hb_tree.specs.declared.leaves.RecId.{RecId}
use Rattle.hb_calculus.specs.Declarations.{Decl, a_record, Record, record_in, field_types}
use Rattle.hb_calculus.specs.Telescopes.{filled, projections}
use Rattle.hb_env.specs.Plain.{trees, plain_field}
use Rattle.hb_env.proofs.ListLemmas.{field_types_map}
use Rattle.hb_base.specs.declared.name_id.NameId.{NameId}
use Rattle.std.specs.Option.{option_map}
use Rattle.std.proofs.lemmas.Option.{slice_get_read, slice_get-map}

-- the next of the first values is put in
pub filled_more : (t u : Tree) (xs : List Term) (i : ℕ) (x : Term) (vs : List Tree) (k : ℕ) → i < length xs → x ≡ get_or xs i x → k ≡ length xs - i - 1 + length vs → u ≡ subst_at t (tree x) k → filled u (trees (drop (i + 1) xs) ++ vs) ≡ filled t (trees (drop i xs) ++ vs)
filled_more t u xs i x vs k h e n q =
    let rest = trees (drop (i + 1) xs) ++ vs in
    let d : drop i xs ≡ x ∷ drop (i + 1) xs = drop_more xs i x h ∙ ap (λ y. y ∷ drop (i + 1) xs) (sym e) in
    let l : k ≡ length rest = omega (arith, length-append (trees (drop (i + 1) xs)) vs, length-map (drop (i + 1) xs) tree, length-drop (i + 1) xs) in
    ap (λ y. filled y rest) (q ∙ ap (λ m. subst_at t (tree x) m) l) ∙ sym (ap (λ ys. filled t (trees ys ++ vs)) d)

pub length_projections : (r : RecId) (i n : ℕ) (t : Tree) → length (projections r i n t) ≡ n
length_projections r i zero t = refl
length_projections r i (suc n) t = omega (arith, length_projections r (i + 1) n t)

-- the next of the projections is put in
pub projected_more : (p q t : Tree) (r : RecId) (i n k : ℕ) → 0 < n → k ≡ n - 1 → q ≡ subst_at p (proj r i t) k → filled q (projections r (i + 1) (n - 1) t) ≡ filled p (projections r i n t)
projected_more p q t r i zero k h e s = absurd (omega arith)
projected_more p q t r i (suc n) k h e s =
    let m : suc n - 1 ≡ n = omega arith in
    let l : k ≡ length (projections r (i + 1) n t) = omega (arith, length_projections r (i + 1) n t) in
    rw m (ap (λ y. filled y (projections r (i + 1) n t)) (s ∙ ap (λ j. subst_at p (proj r i t) j) l))

-- what is known of a declared record
pub record_is : (o : Option Decl) (n m : ℕ) (ps : List Tree) (k : ℕ) (fs : List (ℕ × Tree)) (R : Record) → Some (a_record n m ps k fs) ≡ o → record_in o ≡ Some R → R.fields ≡ field_types fs
record_is o n m ps k fs R e h =
    let f : record_in (Some (a_record n m ps k fs)) ≡ Some R = subst (λ (x : Option Decl). record_in x ≡ Some R) (sym e) h in
    let x : Record = record { params = ps; level = k; fields = field_types fs } in
    let g : x ≡ R = cc in
    sym (ap (λ (x : Record). x.fields) g)

-- the type of a field, by its place
pub field_is : (fs : List (NameId × Term)) (i : ℕ) (f : NameId × Term) (T : Tree) → i < length fs → f ≡ get_or fs i f → slice_get (field_types (map plain_field fs)) i ≡ Some T → tree f.1 ≡ T
field_is fs i f T h e g =
    let a : slice_get fs i ≡ Some f = slice_get_read fs (length fs) i f refl h e in
    let b : slice_get (map (λ (x : NameId × Term). tree x.1) fs) i ≡ Some (tree f.1) = slice_get-map (λ (x : NameId × Term). tree x.1) fs i ∙ ap (option_map (λ (x : NameId × Term). tree x.1)) a in
    let d : slice_get (map (λ (x : NameId × Term). tree x.1) fs) i ≡ Some T = rw (← field_types_map fs) g in
    cc
