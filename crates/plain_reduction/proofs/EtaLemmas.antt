-- Eta of records, from the arguments of a maker.
use Rattle.std.proofs.Common.{◌≡◌, ◌∙◌, sym, ap, ℕ, ◌+◌, List, length, drop, length-drop, arith, eq-eqb}
use Rattle.std.specs.Prelude.{Option, Some, None, slice_get, true, cond, ◌==◌, ◌&&◌, option_and_then}
use Rattle.hb_tree.specs.Tree.{Tree, app, const, head_of, args_of}
use Rattle.hb_tree.specs.declared.leaves.ConstId.{ConstId}
use Rattle.hb_tree.specs.declared.leaves.RecId.{RecId}
use Rattle.hb_calculus.specs.Declarations.{Decl, Record, record_in}
use Rattle.hb_calculus.specs.Telescopes.{projections}
use Rattle.hb_calculus.specs.Contraction.{same_trees, projected_of, eta_of_fields, eta_of_made, eta_of}
use Rattle.hb_reduce.specs.Spines.{SizesAre}

-- the fields of a maker with all its arguments, whose first is a projection of u
fields-eta :
    (o : Option Record) (r : RecId) (xs : List Tree) (p m : ℕ) (u : Tree) → SizesAre o (Some (p, m)) → length xs ≡ p + m
    → projected_of (drop p xs) ≡ Some u
    → eta_of_fields o r.0 xs ≡ cond (same_trees (drop p xs) (projections r 0 m u)) (Some u) None
fields-eta None r xs p m u s l h = absurd s
fields-eta (Some R) r xs p m u s l h =
    let a = s.0 in
    let b = s.1 in
    let many : length xs ≡ length R.params + length R.fields = omega arith in
    let first : projected_of (drop (length R.params) xs) ≡ Some u = ap (λ n. projected_of (drop n xs)) (sym s.0) ∙ h in
    ap
    (option_and_then
    (λ t. cond ((length xs == length R.params + length R.fields) && same_trees (drop (length R.params) xs) (projections r 0 (length R.fields) t)) (Some t) None))
    first
    ∙ ap
    (λ x. cond (x && same_trees (drop (length R.params) xs) (projections r 0 (length R.fields) u)) (Some u) None)
    (eq-eqb _ _ many)
    ∙ (λ i. cond (same_trees (drop (sym s.0 i) xs) (projections r 0 (sym s.1 i) u)) (Some u) None)

pub record-eta :
    (E : List Decl) (t f a : Tree) (c : ConstId) (p m : ℕ) (xs made : List Tree) (u : Tree) → t ≡ app f a → const c ≡ head_of t → c.maker ≡ true
    → SizesAre (record_in (slice_get E c.decl)) (Some (p, m)) → xs ≡ args_of t → length xs ≡ p + m → made ≡ drop p xs → Some u ≡ projected_of made
    → eta_of E t ≡ cond (same_trees made (projections (record { 0 = c.decl }) 0 (length made) u)) (Some u) None
record-eta E t f a c p m xs made u e h k s g l d q =
    let r : RecId = record { 0 = c.decl } in
    let count : length made ≡ m = ap length d ∙ rw length-drop (omega (arith, l)) in
    ap (eta_of E) e
    ∙ ap (λ x. eta_of_made E (head_of x) (args_of x)) (sym e)
    ∙ ap (λ x. eta_of_made E x (args_of t)) (sym h)
    ∙ ap (λ b. cond b (eta_of_fields (record_in (slice_get E c.decl)) c.decl (args_of t)) None) k
    ∙ ap (eta_of_fields (record_in (slice_get E c.decl)) c.decl) (sym g)
    ∙ fields-eta (record_in (slice_get E c.decl)) r xs p m u s l (ap projected_of (sym d) ∙ sym q)
    ∙ (λ i. cond (same_trees (sym d i) (projections r 0 (sym count i) u)) (Some u) None)
