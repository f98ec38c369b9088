use Rattle.std.proofs.Common.{◌≡◌, ◌-◌, ◌+◌, ap, ◌∙◌, arith, subst, ℕ}
use Rattle.hb_term.specs.Meaning.{tree}
use Rattle.hb_tree.specs.Tree.{Tree, proj, subst_at}
use Rattle.hb_calculus.specs.Telescopes.{filled, projections}
use Rattle.hb_record.proofs.FilledLemmas.{projected_more}
use Rattle.hb_record.proofs.projection.with_projections.Goals as goal

pub loop-field-preserved : goal.loop-field-preserved
loop-field-preserved c =
    let n = c.args.fields - c.loop-field.field in
    let v = tree c.args.value.now in
    let a : c.in_ok-copy.field-0 ≡ c.args.value.now = c.in_ok-copy.ensures in
    let b : tree c.in_ok-proj.field-0 ≡ proj c.args.rec c.loop-field.field (tree c.in_ok-copy.field-0) = c.in_ok-proj.ensures in
    let d : c.in_ok-projected.projected ≡ tree c.in_ok-proj.field-0 = c.in_ok-projected.ensures in
    let p : c.in_ok-projected.projected ≡ proj c.args.rec c.loop-field.field v = d ∙ b ∙ ap (λ x. proj c.args.rec c.loop-field.field (tree x)) a in
    let q : c.in_ok-part.part ≡ subst_at c.loop-field.part (proj c.args.rec c.loop-field.field v) c.from.result = c.in_ok-part.ensures ∙ ap (λ (x : Tree). subst_at c.loop-field.part x c.from.result) p in
    let m : n - 1 ≡ c.args.fields - (c.loop-field.field + 1) = omega arith in
    let step = projected_more c.loop-field.part c.in_ok-part.part v c.args.rec c.loop-field.field n c.from.result (omega arith) (omega (arith, c.from.ensures)) q in
    subst (λ (k : ℕ). filled c.in_ok-part.part (projections c.args.rec (c.loop-field.field + 1) k v) ≡ filled c.loop-field.part (projections c.args.rec c.loop-field.field n v)) m step ∙ c.loop-field.invariant
