use Rattle.std.proofs.Common.{◌∙◌, sym, refl, ap}
use Rattle.hb_tree.specs.Tree.{app, proj}
use Rattle.hb_term.specs.Meaning.{tree}
use Rattle.hb_reduce.proofs.ProgressLemmas.{own-head}
use Rattle.hb_reduce.proofs.head.toward_head.Goals as goal

pub returns-in_ok-share-in-App-2 : goal.returns-in_ok-share-in-App-2
returns-in_ok-share-in-App-2 c = (
  sym c.as_ref.ensures
      ∙ ap tree c.in-App.is
      ∙ (λ i. app (sym c.in_ok-share-in-App-2.ensures i) (sym c.in_ok-share-in-App.ensures i)),
  refl,
)

pub returns-in_ok-share-in-Proj : goal.returns-in_ok-share-in-Proj
returns-in_ok-share-in-Proj c =
    (sym c.as_ref.ensures ∙ ap tree c.in-Proj.is ∙ ap (λ t. proj c.in-Proj.r c.in-Proj.i t) (sym c.in_ok-share-in-Proj.ensures), refl)

pub returns-in_default : goal.returns-in_default
returns-in_default c = own-head _ _ c.as_ref.ensures c.in_default.not-App c.in_default.not-Proj
