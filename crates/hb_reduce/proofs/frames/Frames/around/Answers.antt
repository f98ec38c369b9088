use Rattle.std.proofs.Common.{◌∙◌, ap, min, []}
use Rattle.hb_reduce.specs.Frames.{around}
use Rattle.hb_reduce.proofs.StackLemmas.{all-counts}
use Rattle.hb_reduce.proofs.frames.Frames.around.Goals as goal

pub returns : goal.returns
returns c =
    (all-counts [] c.self.inside.layers.items _ _ c.self.invariant).nodes_are
    ∙ ap (λ fs. min (around fs) 18446744073709551615) c.self.view_is
