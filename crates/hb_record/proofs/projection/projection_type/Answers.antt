use Rattle.std.proofs.Common.{◌≡◌, ◌++◌, ap, ◌∙◌}
use Rattle.hb_tree.specs.Tree.{Tree}
use Rattle.hb_term.specs.Meaning.{tree}
use Rattle.hb_calculus.specs.Telescopes.{filled, projections}
use Rattle.hb_env.specs.Plain.{trees}
use Rattle.hb_record.proofs.FilledLemmas.{length_projections}
use Rattle.hb_record.proofs.projection.projection_type.Goals as goal

pub returns : goal.returns
returns c R T h g =
    let vs = projections c.args.rec 0 c.args.field (tree c.args.value.now) in
    let first : c.in_ok-part.part ≡ T = c.in_ok-part.ensures ∙ ap tree c.in_ok-copy.ensures ∙ c.field_type-ty.ensures R T h g in
    let second : filled c.in_ok-part-2.part vs ≡ filled c.in_ok-part.part (trees c.args.params.now ++ vs) = c.in_ok-part-2.ensures vs (length_projections c.args.rec 0 c.args.field (tree c.args.value.now)) in
    let third : c.in_ok-part-3.part ≡ filled c.in_ok-part-2.part vs = c.in_ok-part-3.ensures in
    let last : tree c.in_ok-copy-2.field-0 ≡ c.in_ok-part-3.part = ap tree c.in_ok-copy-2.ensures ∙ c.as_ref.ensures in
    last ∙ third ∙ second ∙ ap (λ (t : Tree). filled t (trees c.args.params.now ++ vs)) first
