use Rattle.std.proofs.Common.{◌∙◌, sym}
use Rattle.hb_kernel.proofs.CompareLemmas.{apart-not-below}
use Rattle.hb_kernel.proofs.compare.apart.Goals as goal

pub returns-in-Ok-normal : goal.returns-in-Ok-normal
returns-in-Ok-normal c = (
  (apart-not-below _ _ _ _ _ _ c.requires.apart c.in-Ok.ensures.form c.in-Ok-normal.ensures.form, c.in-Ok.ensures.depth),
  c.in-Ok-normal.ensures.depth ∙ c.requires.depth ∙ sym c.in-Ok.ensures.depth,
)
