use Rattle.std.proofs.Common.{◌∙◌, sym}
use Rattle.hb_reduce.proofs.StackLemmas.{pushed-view, popped-counts}
use Rattle.hb_reduce.proofs.frames.Frames.pop.Goals as goal
use Rattle.std.proofs.Common.{refl}

pub invariant_of-self-2 : goal.invariant_of-self-2
invariant_of-self-2 c = popped-counts _ _ _ _ _ c.in_ok-side.ensures.items c.self.invariant

pub returns : goal.returns
returns c = sym c.self.view_is ∙ pushed-view _ _ _ _ c.in_ok-side.ensures.items refl
