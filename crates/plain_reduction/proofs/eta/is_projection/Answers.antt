use Rattle.std.proofs.Common.{◌∙◌, sym, ap}
use Rattle.hb_term.specs.Meaning.{tree}
use Rattle.hb_reduce.proofs.SpineLemmas.{tells-projection}
use Rattle.plain_reduction.proofs.eta.is_projection.Goals as goal

pub returns : goal.returns
returns c =
    tells-projection _ _ _ _ _ _ _ _ _ (sym c.as_ref.ensures ∙ ap tree c.in-Proj.is) c.if-ne.ensures c.if-from-field.false c.from.ensures c.same.ensures
