use Rattle.std.proofs.Common.{◌∙◌, ap, min, []}
use Rattle.hb_reduce.specs.Frames.{reach}
use Rattle.hb_reduce.proofs.StackLemmas.{all-counts}
use Rattle.hb_reduce.proofs.frames.Frames.reach.Goals as goal

pub returns : goal.returns
returns c =
    (all-counts [] c.self.inside.layers.items _ _ c.self.invariant).reach_is
    ∙ ap (λ fs. min (reach fs) 4294967295) c.self.view_is
